-- Parts with other numbers of declared types.
use Rattle.std.proofs.Common.{◌≡◌, ◌∙◌, ℕ, suc, Bool, true, false, List, [], ◌∷◌, map, Option, Some, None, length, refl, ap, cond}
use Rattle.std.specs.Prelude.{◌&&◌, ◌||◌}
use Rattle.std.specs.List.{list_all, list_any}
use Rattle.go_types.specs.Trees.{TypeTree}
use Rattle.go_typed.specs.Trees.{Label, typed, Typeds, row, list_of, all_mapped}
use Rattle.go_typed.specs.Trees as sort
use Rattle.go_types_relations.specs.Renaming.{renamed}
use Rattle.go_exprs_rules.specs.Settling.{Part}
use Rattle.go_exprs_rules.specs.Tables.{Parts, present}
use Rattle.go_renumbering.specs.Renumbered.{part_renamed}

pub branches : {A B : Type 0} (g : A → B) (b : Bool) (x y : A) → cond b (g x) (g y) ≡ g (cond b x y)
branches g true x y = refl
branches g false x y = refl

module _ (name : ℕ → ℕ) where
  abbrev pub optional : Option Part → Option Part
  optional None = None
  optional (Some x) = Some (part_renamed name x)

  abbrev pub every : List Part → List Part
  every xs = map (part_renamed name) xs

  abbrev pub parts : Parts → Parts
  parts xs = map optional xs

  abbrev pub inner : Typeds TypeTree → Typeds TypeTree
  inner ps = all_mapped (renamed name) ps

  pub list_kept : (ps : Typeds TypeTree) → list_of (inner ps) ≡ parts (list_of ps)
  list_kept sort.none = refl
  list_kept (sort.more x xs) = ap (λ ys. Some (part_renamed name x) ∷ ys) (list_kept xs)
  list_kept (sort.skip xs) = ap (λ ys. None ∷ ys) (list_kept xs)

  pub row_kept : (xs : Parts) → row (parts xs) ≡ inner (row xs)
  row_kept [] = refl
  row_kept (None ∷ xs) = ap sort.skip (row_kept xs)
  row_kept (Some x ∷ xs) = ap (sort.more (part_renamed name x)) (row_kept xs)

  pub present_kept : (xs : Parts) → present (parts xs) ≡ every (present xs)
  present_kept [] = refl
  present_kept (Some x ∷ xs) = ap (λ ys. part_renamed name x ∷ ys) (present_kept xs)
  present_kept (None ∷ xs) = present_kept xs

  pub count_kept : (xs : List Part) → length (every xs) ≡ length xs
  count_kept [] = refl
  count_kept (x ∷ xs) = ap suc (count_kept xs)

  -- ---- what is made of each part

  pub map_kept : {B C : Type 0} (g : C → B) (f : Part → B) (e : Part → C) → ((x : Part) → f (part_renamed name x) ≡ g (e x)) → (xs : List Part) → map f (every xs) ≡ map g (map e xs)
  map_kept g f e h [] = refl
  map_kept g f e h (x ∷ xs) = ap (λ y. y ∷ map f (every xs)) (h x) ∙ ap (λ ys. g (e x) ∷ ys) (map_kept g f e h xs)

  pub all_kept : (f e : Part → Bool) → ((x : Part) → f (part_renamed name x) ≡ e x) → (xs : List Part) → list_all f (every xs) ≡ list_all e xs
  all_kept f e h [] = refl
  all_kept f e h (x ∷ xs) = ap (λ b. b && list_all f (every xs)) (h x) ∙ ap (λ b. e x && b) (all_kept f e h xs)

  pub any_kept : (f e : Part → Bool) → ((x : Part) → f (part_renamed name x) ≡ e x) → (xs : List Part) → list_any f (every xs) ≡ list_any e xs
  any_kept f e h [] = refl
  any_kept f e h (x ∷ xs) = ap (λ b. b || list_any f (every xs)) (h x) ∙ ap (λ b. e x || b) (any_kept f e h xs)

  pub some_kept : (f e : Option Part → Bool) → ((x : Option Part) → f (optional x) ≡ e x) → (xs : Parts) → list_any f (parts xs) ≡ list_any e xs
  some_kept f e h [] = refl
  some_kept f e h (x ∷ xs) = ap (λ b. b || list_any f (parts xs)) (h x) ∙ ap (λ b. e x || b) (some_kept f e h xs)
