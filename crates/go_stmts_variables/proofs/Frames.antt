-- Frames in which variables stand, as statements change them.
use Rattle.std.proofs.Common.{◌≡◌, ◌∙◌, ℕ, zero, suc, false, List, [], ◌∷◌, Option, Some, None, refl, sym, ap}
use Rattle.std.specs.Prelude.{slice_get}
use Rattle.go_grammar.specs.Trees.{Tree}
use Rattle.go_tree.specs.declared.object.Object.{Object}
use Rattle.go_tree.specs.declared.object.Object.TheVariants as object
use Rattle.go_types.specs.Trees.{TypeTree}
use Rattle.go_types.specs.Relations.{Rights}
use Rattle.go_typed.specs.declared.form.Form.TheVariants as form
use Rattle.go_typed.specs.declared.form.Referent.TheVariants as referent
use Rattle.go_exprs_rules.specs.Names.{predeclared_sort, object_sort, object_form, declared_form}
use Rattle.go_exprs_rules.specs.Scopes.{Needed, Scope}
use Rattle.go_exprs_rules.specs.Sorts.{Stands, is_open}
use Rattle.go_stmts_defs.specs.Frames.{Frame, known, scope_of, placed, with_local, with_right, with_iota}
use Rattle.go_stmts_defs.specs.Laying.{local_named}
use Rattle.go_stmts_defs.specs.Reading.{back}
use Rattle.go_exprs_variables.specs.Stood.{Stood, as_before, in_place, early}
use Rattle.go_exprs_variables.specs.Variables.{Standin, Standins, StandsIn}
use Rattle.go_stmts_variables.specs.Frames.{SaysSame, FramesStand}

-- ---- lists with one element changed

same_placed : {A : Type 0} (n : ℕ) (x : A) (ls ks : List A) (m : ℕ) → slice_get ls m ≡ slice_get ks m → slice_get (placed n x ls) m ≡ slice_get (placed n x ks) m
same_placed n x [] [] m e = refl
same_placed zero x [] (k ∷ ks) zero e = cc
same_placed zero x [] (k ∷ ks) (suc m) e = e
same_placed (suc n) x [] (k ∷ ks) zero e = e
same_placed (suc n) x [] (k ∷ ks) (suc m) e = same_placed n x [] ks m e
same_placed zero x (l ∷ ls) [] zero e = cc
same_placed zero x (l ∷ ls) [] (suc m) e = e
same_placed (suc n) x (l ∷ ls) [] zero e = e
same_placed (suc n) x (l ∷ ls) [] (suc m) e = same_placed n x ls [] m e
same_placed zero x (l ∷ ls) (k ∷ ks) zero e = refl
same_placed zero x (l ∷ ls) (k ∷ ks) (suc m) e = e
same_placed (suc n) x (l ∷ ls) (k ∷ ks) zero e = e
same_placed (suc n) x (l ∷ ls) (k ∷ ks) (suc m) e = same_placed n x ls ks m e

other_placed : {A : Type 0} (n : ℕ) (x : A) (ls : List A) (m : ℕ) → (n ≡ m → ⊥) → slice_get (placed n x ls) m ≡ slice_get ls m
other_placed n x [] m d = refl
other_placed zero x (l ∷ ls) zero d = absurd (d refl)
other_placed zero x (l ∷ ls) (suc m) d = refl
other_placed (suc n) x (l ∷ ls) zero d = refl
other_placed (suc n) x (l ∷ ls) (suc m) d = other_placed n x ls m (λ e. d (ap suc e))

-- ---- tags under other right sides

by_tag : (r q : Rights) (o : Option TypeTree) (a b : Stands) → Stood r o a b → o ≡ None → Stood q None a b
by_tag r q o a b (as_before v c) e = as_before None c
by_tag r q o a b (in_place v t c) e = in_place None t c
by_tag r q o a b (early t c k m n) e = cc

pub tag_moved : (r q : Rights) (a b : Stands) → Stood r None a b → Stood q None a b
tag_moved r q a b st = by_tag r q None a b st refl

module _ (w : Standins) where
  -- the number of no variable
  abbrev pub Fresh : ℕ → Type 0
  Fresh n = (i : ℕ) (v : Standin) → w i ≡ Some v → n ≡ v.local → ⊥

  -- what a token names at which none stands
  pub named_fresh : (s t : Frame) (j n : ℕ) → FramesStand w s t → w j ≡ None → local_named (s.around.objects j) ≡ Some n → Fresh n
  named_fresh s t j n h e m i v at same = h.says.apart i j v at e (m ∙ ap Some same)

  says_moved : (s t : Scope) (r q : Rights) (n m : ℕ) → SaysSame w s t → SaysSame w (record s { rights = r; iota = n }) (record t { rights = q; iota = m })
  says_moved s t r q n m h = record {
    texts = h.texts;
    characters = h.characters;
    sorts = h.sorts;
    referents = h.referents;
    needed = h.needed;
    limits = h.limits;
    objects = h.objects;
    variable = h.variable;
    apart = h.apart;
    typed = λ k i c e. still_typed k (s.objects i) c (h.typed k i c) e;
  }
    where
      still_typed : (k : Needed) (o : Option Object) (c : ℕ) → (object_form s o ≡ form.Object (referent.Variable c) → is_open (object_sort s k o) ≡ false)
          → object_form (record s { rights = r; iota = n }) o ≡ form.Object (referent.Variable c)
          → is_open (object_sort (record s { rights = r; iota = n }) k o) ≡ false
      still_typed k None c f e = cc
      still_typed k (Some object.Import) c f e = cc
      still_typed k (Some (object.Predeclared p)) c f e = cc
      still_typed k (Some (object.Package p)) c f e = f e
      still_typed k (Some (object.Local a b)) c f e = cc

  pub with_local_stands : (s t : Frame) (n : ℕ) (x : Stands) → Fresh n → FramesStand w s t → FramesStand w (with_local n x s) (with_local n x t)
  with_local_stands s t n x fresh h = record {
    says = h.says;
    rights = h.rights;
    iota = h.iota;
    own = λ i v e. other_placed n (Some x) t.locals v.local (fresh i v e) ∙ h.own i v e;
    locals = λ i m e f. same_placed n (Some x) t.locals s.locals m (h.locals i m e f);
    types = h.types;
    source = h.source;
    tag = h.tag;
    results = h.results;
  }

  pub with_right_stands : (s t : Frame) (n : ℕ) (r : Option TypeTree) → FramesStand w s t → FramesStand w (with_right n r s) (with_right n r t)
  with_right_stands s t n r h = record {
    says = says_moved s.around t.around (placed n r s.around.rights) (placed n r t.around.rights) s.around.iota t.around.iota h.says;
    rights = ap (placed n r) h.rights;
    iota = h.iota;
    own = h.own;
    locals = h.locals;
    types = h.types;
    source = h.source;
    tag = tag_moved s.around.rights (placed n r s.around.rights) s.tag t.tag h.tag;
    results = h.results;
  }

  pub with_tag_stands : (s t : Frame) (a b : Stands) → Stood s.around.rights None a b → FramesStand w s t → FramesStand w (record s { tag = a }) (record t { tag = b })
  with_tag_stands s t a b st h = record { says = h.says; rights = h.rights; iota = h.iota; own = h.own; locals = h.locals; types = h.types; source = h.source; tag = st; results = h.results }

  pub with_iota_stands : (s t : Frame) (n m : ℕ) → m ≡ n → FramesStand w s t → FramesStand w (with_iota n s) (with_iota m t)
  with_iota_stands s t n m e h = record {
    says = says_moved s.around t.around s.around.rights t.around.rights n m h.says;
    rights = h.rights;
    iota = e;
    own = h.own;
    locals = h.locals;
    types = h.types;
    source = h.source;
    tag = h.tag;
    results = h.results;
  }

  pub with_source_stands : (s t : Frame) (a b : Option Tree) → b ≡ a → FramesStand w s t → FramesStand w (record s { source = a }) (record t { source = b })
  with_source_stands s t a b e h = record { says = h.says; rights = h.rights; iota = h.iota; own = h.own; locals = h.locals; types = h.types; source = e; tag = h.tag; results = h.results }

  -- behind a node the tag and `iota` are those in front of it
  pub back_stands : (a b s t : Frame) → FramesStand w a b → FramesStand w s t → FramesStand w (back a s) (back b t)
  back_stands a b s t g h = record {
    says = says_moved s.around t.around s.around.rights t.around.rights a.around.iota b.around.iota h.says;
    rights = h.rights;
    iota = g.iota;
    own = h.own;
    locals = h.locals;
    types = h.types;
    source = h.source;
    tag = tag_moved a.around.rights s.around.rights a.tag b.tag g.tag;
    results = g.results;
  }

  -- ---- the scopes of expressions

  module _ (s t : Frame) (h : FramesStand w s t) where
    object_stands : (n : Needed) (o : Option Object) → ((k : ℕ) → local_named o ≡ Some k → slice_get t.locals k ≡ slice_get s.locals k) → object_sort (scope_of t) n o ≡ object_sort (scope_of s) n o
    object_stands n None e = refl
    object_stands n (Some object.Import) e = refl
    object_stands n (Some (object.Predeclared p)) e = ap (λ i. predeclared_sort i p) h.iota
    object_stands n (Some (object.Package k)) e = h.says.sorts n (object.Package k)
    object_stands n (Some (object.Local f k)) e = ap known (e k refl)

    same_form : (o : Option Object) → object_form (scope_of t) o ≡ object_form (scope_of s) o
    same_form None = refl
    same_form (Some object.Import) = refl
    same_form (Some (object.Predeclared p)) = refl
    same_form (Some (object.Package n)) = ap form.Object (h.says.referents n)
    same_form (Some (object.Local f n)) = refl

    pub same_declared : (o : Option Object) → declared_form (scope_of t) o ≡ declared_form (scope_of s) o
    same_declared None = refl
    same_declared (Some object.Import) = refl
    same_declared (Some (object.Predeclared p)) = refl
    same_declared (Some (object.Package n)) = ap form.Object (h.says.referents n)
    same_declared (Some (object.Local f n)) = refl

    -- What expressions are told is the same but for the variables.
    pub scopes_stand : StandsIn w (scope_of s) (scope_of t)
    scopes_stand = record {
      rights = h.rights;
      iota = h.iota;
      texts = h.says.texts;
      characters = h.says.characters;
      needed = h.says.needed;
      limits = h.says.limits;
      variable = h.says.variable;
      type = λ n i v e. ap known (h.own i v e);
      standing = λ n i e. ap (object_sort (scope_of t) n) (h.says.objects i e) ∙ object_stands n (s.around.objects i) (λ k m. h.locals i k e m);
      form = λ i e. ap (object_form (scope_of t)) (h.says.objects i e) ∙ same_form (s.around.objects i);
      declared = λ i e. ap (declared_form (scope_of t)) (h.says.objects i e) ∙ same_declared (s.around.objects i);
    }

    form_around : (o : Option Object) → object_form (scope_of s) o ≡ object_form s.around o
    form_around None = refl
    form_around (Some object.Import) = refl
    form_around (Some (object.Predeclared p)) = refl
    form_around (Some (object.Package n)) = refl
    form_around (Some (object.Local f n)) = refl

    sort_around : (n : Needed) (o : Option Object) (r : ℕ) → object_form s.around o ≡ form.Object (referent.Variable r) → object_sort (scope_of s) n o ≡ object_sort s.around n o
    sort_around n None r e = cc
    sort_around n (Some object.Import) r e = cc
    sort_around n (Some (object.Predeclared p)) r e = cc
    sort_around n (Some (object.Package k)) r e = refl
    sort_around n (Some (object.Local f k)) r e = cc

    -- variables of the package have types
    pub variables_typed : (n : Needed) (i r : ℕ) → object_form (scope_of s) ((scope_of s).objects i) ≡ form.Object (referent.Variable r) → is_open (object_sort (scope_of s) n ((scope_of s).objects i)) ≡ false
    variables_typed n i r e =
        let around = sym (form_around (s.around.objects i)) ∙ e in
        ap is_open (sort_around n (s.around.objects i) r around) ∙ h.says.typed n i r around
