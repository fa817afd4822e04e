-- How parts are laid out, and what is made of them by their places, with other numbers of declared types.
use Rattle.std.proofs.Common.{◌≡◌, ◌∙◌, ℕ, List, [], ◌∷◌, ◌++◌, Option, Some, None, refl, sym, ap, cond}
use Rattle.std.proofs.lemmas.List.{map-append}
use Rattle.go_grammar.specs.declared.kind.Kind.{Kind}
use Rattle.go_grammar.specs.declared.kind.Kind.TheVariants as kind
use Rattle.go_types.specs.Trees.{TypeTree}
use Rattle.go_typed.specs.declared.form.Form.TheVariants as form
use Rattle.go_typed.specs.Trees.{typed, list_of}
use Rattle.go_exprs_rules.specs.Scopes.{Hint, element}
use Rattle.go_exprs_rules.specs.Settling.{Part}
use Rattle.go_exprs_rules.specs.Tables.{Parts, is_held, held, all_held, leaf, is_type, cut, first_cut, is_make_call, call_parts, has_no_low, bounds_of, bracketed_parts, is_package, selector_parts, behind_first, layout, present, on_one, on_two, on_first, on_bracketed, on_optional, told_type, literal_type, on_literal}
use Rattle.go_renumbering.specs.Renumbered.{part_renamed, hint_renamed}
use Rattle.go_renumbering.proofs.Parts.{branches, optional, every, parts, list_kept, present_kept}
use Rattle.go_renumbering.proofs.Sorts.{maybe, named_same, type_same, package_same, make_same}

module _ (name : ℕ → ℕ) where
  -- ---- how parts are laid out

  pub held_kept : (x : Option Part) → held (optional name x) ≡ parts name (held x)
  held_kept None = refl
  held_kept (Some (typed f i j l ps)) =
      ap (λ xs. cond (is_held f) xs (Some (part_renamed name (typed f i j l ps)) ∷ [])) (list_kept name ps) ∙ branches (parts name) (is_held f) (list_of ps) (Some (typed f i j l ps) ∷ [])

  pub all_held_kept : (xs : Parts) → all_held (parts name xs) ≡ parts name (all_held xs)
  all_held_kept [] = refl
  all_held_kept (x ∷ xs) =
      ap (λ ys. ys ++ all_held (parts name xs)) (held_kept x) ∙ ap (λ ys. parts name (held x) ++ ys) (all_held_kept xs) ∙ sym (map-append (optional name) (held x) (all_held xs))

  cut_kept : (x : Option Part) → cut (optional name x) ≡ optional name (cut x)
  cut_kept None = refl
  cut_kept (Some (typed f i j l ps)) =
      let x = typed f i j l ps in
      ap (λ b. cond b (Some (leaf (part_renamed name x))) (Some (part_renamed name x))) (type_same name l.sort) ∙ branches (optional name) (is_type l.sort) (Some (leaf x)) (Some x)

  pub first_cut_kept : (xs : Parts) → first_cut (parts name xs) ≡ parts name (first_cut xs)
  first_cut_kept [] = refl
  first_cut_kept (x ∷ xs) = ap (λ y. y ∷ parts name xs) (cut_kept x)

  make_call_kept : (x : Option Part) (xs : Parts) → is_make_call (optional name x ∷ parts name xs) ≡ is_make_call (x ∷ xs)
  make_call_kept None xs = refl
  make_call_kept (Some (typed f i j l ps)) xs = make_same name l.sort

  call_parts_kept : (xs : Parts) → call_parts (parts name xs) ≡ parts name (call_parts xs)
  call_parts_kept [] = refl
  call_parts_kept (f ∷ xs) =
      ap (λ b. cond b (optional name f ∷ first_cut (parts name xs)) (cut (optional name f) ∷ parts name xs)) (make_call_kept f xs)
      ∙ ap (λ ys. cond (is_make_call (f ∷ xs)) (optional name f ∷ ys) (cut (optional name f) ∷ parts name xs)) (first_cut_kept xs)
      ∙ ap (λ y. cond (is_make_call (f ∷ xs)) (optional name f ∷ parts name (first_cut xs)) (y ∷ parts name xs)) (cut_kept f)
      ∙ branches (parts name) (is_make_call (f ∷ xs)) (f ∷ first_cut xs) (cut f ∷ xs)

  no_low_kept : (x : Option Part) → has_no_low (optional name x) ≡ has_no_low x
  no_low_kept None = refl
  no_low_kept (Some (typed (form.Held kind.Bounds) i j l ps)) = refl
  no_low_kept (Some (typed f i j l ps)) = refl

  bounds_kept : (x : Option Part) → bounds_of (optional name x) ≡ parts name (bounds_of x)
  bounds_kept x =
      ap (λ b. cond b (None ∷ held (optional name x)) (held (optional name x))) (no_low_kept x) ∙ ap (λ ys. cond (has_no_low x) (None ∷ ys) ys) (held_kept x)
      ∙ branches (parts name) (has_no_low x) (None ∷ held x) (held x)

  bracketed_kept : (xs : Parts) → bracketed_parts (parts name xs) ≡ parts name (bracketed_parts xs)
  bracketed_kept [] = refl
  bracketed_kept (x ∷ []) = refl
  bracketed_kept (x ∷ y ∷ ys) = ap (λ zs. optional name x ∷ zs) (bounds_kept y)

  selector_parts_kept : (xs : Parts) → selector_parts (parts name xs) ≡ parts name (selector_parts xs)
  selector_parts_kept [] = refl
  selector_parts_kept (None ∷ xs) = refl
  selector_parts_kept (Some (typed f i j l ps) ∷ []) =
      let x = typed f i j l ps in
      ap (λ b. cond b [] (Some (part_renamed name x) ∷ [])) (package_same name l.sort) ∙ branches (parts name) (is_package l.sort) [] (Some x ∷ [])
  selector_parts_kept (Some x ∷ y ∷ ys) = refl

  pub behind_kept : (xs : Parts) → behind_first (parts name xs) ≡ parts name (behind_first xs)
  behind_kept [] = refl
  behind_kept (x ∷ xs) = refl

  pub layout_kept : (k : Kind) (xs : Parts) → layout k (parts name xs) ≡ parts name (layout k xs)
  layout_kept kind.Selector xs = selector_parts_kept xs
  layout_kept kind.Bracketed xs = bracketed_kept xs
  layout_kept kind.Call xs = call_parts_kept xs
  layout_kept kind.Composite xs = first_cut_kept xs
  layout_kept kind.LiteralValue xs = refl
  layout_kept kind.Keyed xs = behind_kept xs
  layout_kept kind.Fields xs = all_held_kept xs
  layout_kept kind.StructType xs = all_held_kept xs
  layout_kept k xs = refl

  -- ---- by the places of parts

  pub one_kept : {A B : Type 0} (g : A → B) (d : A) (f : Part → A) (u : Part → B) → ((x : Part) → u (part_renamed name x) ≡ g (f x)) → (xs : Parts) → on_one (g d) u (parts name xs) ≡ g (on_one d f xs)
  one_kept g d f u e [] = refl
  one_kept g d f u e (None ∷ xs) = refl
  one_kept g d f u e (Some x ∷ []) = e x
  one_kept g d f u e (Some x ∷ y ∷ ys) = refl

  pub two_kept : {A B : Type 0} (g : A → B) (d : A) (f : Part → Part → A) (u : Part → Part → B) → ((x y : Part) → u (part_renamed name x) (part_renamed name y) ≡ g (f x y)) → (xs : Parts) → on_two (g d) u (parts name xs) ≡ g (on_two d f xs)
  two_kept g d f u e [] = refl
  two_kept g d f u e (None ∷ xs) = refl
  two_kept g d f u e (Some x ∷ []) = refl
  two_kept g d f u e (Some x ∷ None ∷ ys) = refl
  two_kept g d f u e (Some x ∷ Some y ∷ []) = e x y
  two_kept g d f u e (Some x ∷ Some y ∷ z ∷ zs) = refl

  pub first_kept : {A B : Type 0} (g : A → B) (d : A) (f : Part → List Part → A) (u : Part → List Part → B) → ((x : Part) (ys : List Part) → u (part_renamed name x) (every name ys) ≡ g (f x ys)) → (xs : Parts) → on_first (g d) u (parts name xs) ≡ g (on_first d f xs)
  first_kept g d f u e [] = refl
  first_kept g d f u e (None ∷ xs) = refl
  first_kept g d f u e (Some x ∷ xs) = ap (u (part_renamed name x)) (present_kept name xs) ∙ e x (present xs)

  pub any_bracketed_kept : {A B : Type 0} (g : A → B) (d : A) (f : Part → Part → A) (h : Part → Option Part → Option Part → A) (u : Part → Part → B) (v : Part → Option Part → Option Part → B)
      → ((x y : Part) → u (part_renamed name x) (part_renamed name y) ≡ g (f x y)) → ((x : Part) (y z : Option Part) → v (part_renamed name x) (optional name y) (optional name z) ≡ g (h x y z)) → (xs : Parts)
      → on_bracketed (g d) u v (parts name xs) ≡ g (on_bracketed d f h xs)
  any_bracketed_kept g d f h u v e k [] = refl
  any_bracketed_kept g d f h u v e k (None ∷ xs) = refl
  any_bracketed_kept g d f h u v e k (Some x ∷ []) = refl
  any_bracketed_kept g d f h u v e k (Some x ∷ None ∷ []) = refl
  any_bracketed_kept g d f h u v e k (Some x ∷ Some y ∷ []) = e x y
  any_bracketed_kept g d f h u v e k (Some x ∷ None ∷ z ∷ []) = k x None z
  any_bracketed_kept g d f h u v e k (Some x ∷ Some y ∷ z ∷ []) = k x (Some y) z
  any_bracketed_kept g d f h u v e k (Some x ∷ None ∷ z ∷ w ∷ ws) = refl
  any_bracketed_kept g d f h u v e k (Some x ∷ Some y ∷ z ∷ w ∷ ws) = refl

  pub optional_kept : {A B : Type 0} (g : A → B) (d : A) (f : Option Part → Option Part → A) (u : Option Part → Option Part → B) → ((x y : Option Part) → u (optional name x) (optional name y) ≡ g (f x y)) → (xs : Parts)
      → on_optional (g d) u (parts name xs) ≡ g (on_optional d f xs)
  optional_kept g d f u e [] = refl
  optional_kept g d f u e (x ∷ []) = refl
  optional_kept g d f u e (x ∷ y ∷ []) = e x y
  optional_kept g d f u e (x ∷ y ∷ z ∷ zs) = refl

  pub told_same : (h : Hint) → told_type (hint_renamed name h) ≡ maybe name (told_type h)
  told_same (element t) = refl
  told_same h = refl

  literal_type_kept : (h : Hint) (x : Option Part) → literal_type (hint_renamed name h) (optional name x) ≡ maybe name (literal_type h x)
  literal_type_kept h None = told_same h
  literal_type_kept h (Some (typed f i j l ps)) = named_same name l.sort

  pub on_literal_kept : {A B : Type 0} (g : A → B) (d : A) (h : Hint) (f : Option TypeTree → List Part → A) (u : Option TypeTree → List Part → B)
      → ((t : Option TypeTree) (xs : List Part) → u (maybe name t) (every name xs) ≡ g (f t xs)) → (xs : Parts)
      → on_literal (g d) (hint_renamed name h) u (parts name xs) ≡ g (on_literal d h f xs)
  on_literal_kept g d h f u e [] = refl
  on_literal_kept g d h f u e (t ∷ xs) =
      ap (λ z. u z (present (parts name xs))) (literal_type_kept h t) ∙ ap (u (maybe name (literal_type h t))) (present_kept name xs) ∙ e (literal_type h t) (present xs)
