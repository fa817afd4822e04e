-- Scopes and frames with other numbers of declared types.
use Rattle.std.proofs.Common.{◌≡◌, ◌∙◌, ℕ, zero, suc, List, [], ◌∷◌, map, Option, Some, None, refl, sym, ap, subst}
use Rattle.std.specs.Option.{option_map}
use Rattle.go_grammar.specs.Trees.{Tree}
use Rattle.go_tree.specs.declared.object.Object.{Object}
use Rattle.go_tree.specs.declared.object.Object.TheVariants as object
use Rattle.go_tree.specs.declared.object.Predeclared.{Predeclared}
use Rattle.go_tree.specs.declared.object.Predeclared.TheVariants as predeclared
use Rattle.go_types.specs.Trees.{TypeTree}
use Rattle.go_typed.specs.declared.form.Form.TheVariants as form
use Rattle.go_types_relations.specs.Renaming.{renamed}
use Rattle.go_exprs_rules.specs.Names.{predeclared_sort, object_sort, object_form, declared_form}
use Rattle.go_exprs_rules.specs.Scopes.{Needed, Scope}
use Rattle.go_exprs_rules.specs.Sorts.{Stands, own_type}
use Rattle.go_stmts_defs.specs.Frames.{Locals, Frame, local_stands, scope_of, placed, with_local, with_iota, declared_type}
use Rattle.go_renumbering.specs.Renumbered.{stands_renamed, RenamedScopes}
use Rattle.go_renumbering.proofs.Sorts.{maybe, own_same}
use Rattle.go_renumbering.specs.Frames.{locals_renamed, RenamedFrames}

module _ (name : ℕ → ℕ) where
  abbrev some_stands : Option Stands → Option Stands
  some_stands o = option_map (stands_renamed name) o

  pub local_same : (ls : Locals) (n : ℕ) → local_stands (locals_renamed name ls) n ≡ stands_renamed name (local_stands ls n)
  local_same [] n = refl
  local_same (None ∷ ls) zero = refl
  local_same (Some x ∷ ls) zero = refl
  local_same (o ∷ ls) (suc n) = local_same ls n

  pub declared_type_same : (ls : Locals) (n : ℕ) → declared_type (locals_renamed name ls) n ≡ maybe name (declared_type ls n)
  declared_type_same ls n = ap own_type (local_same ls n) ∙ own_same name (local_stands ls n)

  placed_same : (n : ℕ) (x : Stands) (ls : Locals) → placed n (Some (stands_renamed name x)) (locals_renamed name ls) ≡ locals_renamed name (placed n (Some x) ls)
  placed_same n x [] = refl
  placed_same zero x (o ∷ ls) = refl
  placed_same (suc n) x (o ∷ ls) = ap (λ z. some_stands o ∷ z) (placed_same n x ls)

  predeclared_same : (n : ℕ) (p : Predeclared) → predeclared_sort n p ≡ stands_renamed name (predeclared_sort n p)
  predeclared_same n predeclared.Bool = refl
  predeclared_same n p = refl

  form_same : (s t : Scope) → ((n : ℕ) → t.referents n ≡ s.referents n) → (o : Option Object) → object_form t o ≡ object_form s o
  form_same s t e None = refl
  form_same s t e (Some object.Import) = refl
  form_same s t e (Some (object.Predeclared p)) = refl
  form_same s t e (Some (object.Package n)) = ap form.Object (e n)
  form_same s t e (Some (object.Local f n)) = refl

  declared_same : (s t : Scope) → ((n : ℕ) → t.referents n ≡ s.referents n) → (o : Option Object) → declared_form t o ≡ declared_form s o
  declared_same s t e None = refl
  declared_same s t e (Some object.Import) = refl
  declared_same s t e (Some (object.Predeclared p)) = refl
  declared_same s t e (Some (object.Package n)) = ap form.Object (e n)
  declared_same s t e (Some (object.Local f n)) = refl

  module _ (f g : Frame) (c : RenamedFrames name f g) where
    pub name_form_same : (i : ℕ) → declared_form g.around (g.around.objects i) ≡ declared_form f.around (f.around.objects i)
    name_form_same i = ap (declared_form g.around) (c.objects i) ∙ declared_same f.around g.around c.referents (f.around.objects i)

    object_same : (n : Needed) (o : Option Object) → object_sort (scope_of g) n o ≡ stands_renamed name (object_sort (scope_of f) n o)
    object_same n None = refl
    object_same n (Some object.Import) = refl
    object_same n (Some (object.Predeclared p)) = ap (λ k. predeclared_sort k p) c.iota ∙ predeclared_same f.around.iota p
    object_same n (Some (object.Package m)) = c.sorts n (object.Package m)
    object_same n (Some (object.Local d m)) = ap (λ ls. local_stands ls m) c.locals ∙ local_same f.locals m

    pub scopes_renamed : RenamedScopes name (scope_of f) (scope_of g)
    scopes_renamed = record {
      one_to_one = c.one_to_one;
      rights = c.rights;
      texts = c.texts;
      characters = c.characters;
      standing = λ n i. ap (object_sort (scope_of g) n) (c.objects i) ∙ object_same n (f.around.objects i);
      object = λ i. ap (object_form (scope_of g)) (c.objects i) ∙ form_same (scope_of f) (scope_of g) c.referents (f.around.objects i);
      declared = λ i. ap (declared_form (scope_of g)) (c.objects i) ∙ declared_same (scope_of f) (scope_of g) c.referents (f.around.objects i);
      needed = c.needed;
      limits = c.limits;
    }

    -- ---- what changes

    pub renewed : (ls : Locals) (source : Option Tree) (tag : Stands) (results : List TypeTree)
        → RenamedFrames name (record f { locals = ls; source = source; tag = tag; results = results })
        (record g { locals = locals_renamed name ls; source = source; tag = stands_renamed name tag; results = map (renamed name) results })
    renewed ls source tag results = record {
      one_to_one = c.one_to_one;
      rights = c.rights;
      room = c.room;
      iota = c.iota;
      texts = c.texts;
      characters = c.characters;
      objects = c.objects;
      sorts = c.sorts;
      referents = c.referents;
      needed = c.needed;
      limits = c.limits;
      locals = refl;
      types = c.types;
      source = refl;
      tag = refl;
      results = refl;
    }

    abbrev with : Frame → Locals → Option Tree → Stands → List TypeTree → Frame
    with s ls source tag results = record s { locals = ls; source = source; tag = tag; results = results }

    -- the same with other words for what stands there
    pub renewed_so : (ls ms : Locals) → ms ≡ locals_renamed name ls → (source other : Option Tree) → other ≡ source → (tag mark : Stands) → mark ≡ stands_renamed name tag
        → (results others : List TypeTree) → others ≡ map (renamed name) results → RenamedFrames name (with f ls source tag results) (with g ms other mark others)
    renewed_so ls ms e source other d tag mark k results others r =
        subst (λ z. RenamedFrames name (with f ls source tag results) (with g z other mark others)) (sym e)
        (subst (λ z. RenamedFrames name (with f ls source tag results) (with g (locals_renamed name ls) z mark others)) (sym d)
        (subst (λ z. RenamedFrames name (with f ls source tag results) (with g (locals_renamed name ls) source z others)) (sym k)
        (subst (λ z. RenamedFrames name (with f ls source tag results) (with g (locals_renamed name ls) source (stands_renamed name tag) z)) (sym r) (renewed ls source tag results))))

    pub local_renamed : (n : ℕ) (x : Stands) → RenamedFrames name (with_local n x f) (with_local n (stands_renamed name x) g)
    local_renamed n x =
        renewed_so (placed n (Some x) f.locals) (placed n (Some (stands_renamed name x)) g.locals) (ap (placed n (Some (stands_renamed name x))) c.locals ∙ placed_same n x f.locals)
        f.source g.source c.source f.tag g.tag c.tag f.results g.results c.results

    pub iota_renamed : (n m : ℕ) → m ≡ n → RenamedFrames name (with_iota n f) (with_iota m g)
    iota_renamed n m e = record {
      one_to_one = c.one_to_one;
      rights = c.rights;
      room = c.room;
      iota = e;
      texts = c.texts;
      characters = c.characters;
      objects = c.objects;
      sorts = c.sorts;
      referents = c.referents;
      needed = c.needed;
      limits = c.limits;
      locals = c.locals;
      types = c.types;
      source = c.source;
      tag = c.tag;
      results = c.results;
    }
