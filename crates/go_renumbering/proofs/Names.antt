-- Names in scopes with other numbers of declared types.
use Rattle.std.proofs.Common.{◌≡◌, ◌∙◌, ℕ, [], ◌∷◌, Option, Some, None, refl, sym, ap}
use Rattle.go_grammar.specs.declared.kind.Kind.{Kind}
use Rattle.go_grammar.specs.declared.kind.Kind.TheVariants as kind
use Rattle.go_tree.specs.declared.object.Object.{Object}
use Rattle.go_tree.specs.declared.object.Object.TheVariants as object
use Rattle.go_typed.specs.declared.form.Form.{Form}
use Rattle.go_typed.specs.Trees as sort
use Rattle.go_exprs_rules.specs.Names.{object_sort, need_of, name_sort, object_form, declared_form, form_or_type, name_form}
use Rattle.go_exprs_rules.specs.Scopes.{Needed, in_full, at_once, Scope, Hint, loose, declares, free}
use Rattle.go_exprs_rules.specs.Sorts.{Stands}
use Rattle.go_exprs_rules.specs.Tables.{Parts, in_length, part_scope}
use Rattle.go_renumbering.specs.Renumbered.{stands_renamed, hint_renamed, RenamedScopes}
use Rattle.go_renumbering.proofs.Parts.{parts}

-- ---- scopes in which all that a name needs is needed

abbrev full : Scope → Scope
full s = record s { needed = in_full }

full_sort : (s : Scope) (n : Needed) (o : Option Object) → object_sort (full s) n o ≡ object_sort s n o
full_sort s n None = refl
full_sort s n (Some object.Import) = refl
full_sort s n (Some (object.Predeclared b)) = refl
full_sort s n (Some (object.Package m)) = refl
full_sort s n (Some (object.Local f m)) = refl

full_form : (s : Scope) (o : Option Object) → object_form (full s) o ≡ object_form s o
full_form s None = refl
full_form s (Some object.Import) = refl
full_form s (Some (object.Predeclared b)) = refl
full_form s (Some (object.Package m)) = refl
full_form s (Some (object.Local f m)) = refl

full_declared : (s : Scope) (o : Option Object) → declared_form (full s) o ≡ declared_form s o
full_declared s None = refl
full_declared s (Some object.Import) = refl
full_declared s (Some (object.Predeclared b)) = refl
full_declared s (Some (object.Package m)) = refl
full_declared s (Some (object.Local f m)) = refl

module _ (name : ℕ → ℕ) where
  renamed_in_full : (s t : Scope) → RenamedScopes name s t → RenamedScopes name (full s) (full t)
  renamed_in_full s t c = record {
    one_to_one = c.one_to_one;
    rights = c.rights;
    texts = c.texts;
    characters = c.characters;
    standing = λ n i. full_sort t n (t.objects i) ∙ c.standing n i ∙ ap (stands_renamed name) (sym (full_sort s n (s.objects i)));
    object = λ i. full_form t (t.objects i) ∙ c.object i ∙ sym (full_form s (s.objects i));
    declared = λ i. full_declared t (t.objects i) ∙ c.declared i ∙ sym (full_declared s (s.objects i));
    needed = refl;
    limits = c.limits;
  }

  length_renamed : (s t : Scope) → RenamedScopes name s t → (xs : Parts) → RenamedScopes name (in_length s xs) (in_length t (parts name xs))
  length_renamed s t c [] = renamed_in_full s t c
  length_renamed s t c (x ∷ xs) = c

  pub scope_renamed : (s t : Scope) → RenamedScopes name s t → (k : Kind) (xs : Parts) → RenamedScopes name (part_scope s k xs) (part_scope t k (parts name xs))
  scope_renamed s t c kind.SequenceType xs = length_renamed s t c xs
  scope_renamed s t c k xs = c

  -- ---- names

  need_same : (n : Needed) (h : Hint) → need_of n (hint_renamed name h) ≡ need_of n h
  need_same at_once loose = refl
  need_same n h = refl

  type_form_same : (x : Stands) (f : Form) → form_or_type (stands_renamed name x) f ≡ form_or_type x f
  type_form_same (sort.IsType t) f = refl
  type_form_same x f = refl

  module _ (s t : Scope) (c : RenamedScopes name s t) where
    other_sort : (h : Hint) (i : ℕ) → object_sort t (need_of t.needed (hint_renamed name h)) (t.objects i) ≡ stands_renamed name (object_sort s (need_of s.needed h) (s.objects i))
    other_sort h i =
        ap (λ n. object_sort t (need_of n (hint_renamed name h)) (t.objects i)) c.needed ∙ ap (λ n. object_sort t n (t.objects i)) (need_same s.needed h) ∙ c.standing (need_of s.needed h) i

    pub name_sort_kept : (h : Hint) (i : ℕ) → name_sort t (hint_renamed name h) i ≡ stands_renamed name (name_sort s h i)
    name_sort_kept declares i = refl
    name_sort_kept free i = refl
    name_sort_kept h i = other_sort h i

    other_form : (h : Hint) (i : ℕ) → form_or_type (name_sort t (hint_renamed name h) i) (object_form t (t.objects i)) ≡ form_or_type (name_sort s h i) (object_form s (s.objects i))
    other_form h i =
        ap (form_or_type (name_sort t (hint_renamed name h) i)) (c.object i) ∙ ap (λ x. form_or_type x (object_form s (s.objects i))) (name_sort_kept h i)
        ∙ type_form_same (name_sort s h i) (object_form s (s.objects i))

    pub name_form_kept : (h : Hint) (i : ℕ) → name_form t (hint_renamed name h) i ≡ name_form s h i
    name_form_kept declares i = c.declared i
    name_form_kept free i = c.declared i
    name_form_kept h i = other_form h i
