-- The rules on composite literals elsewhere.
use Rattle.std.proofs.Common.{◌≡◌, ◌∙◌, ℕ, zero, suc, List, [], ◌∷◌, ◌++◌, map, length, Option, Some, None, refl, ap}
use Rattle.std.specs.Prelude.{◌==◌, if◌then◌else◌, is_some}
use Rattle.std.specs.List.{list_all}
use Rattle.go_base.specs.declared.fault.FaultCode.TheVariants as code
use Rattle.go_types.specs.Trees.{TypeTree, array, slice, structure, TypeRow}
use Rattle.go_types.specs.Relations.{Rights}
use Rattle.go_typed.specs.Trees.{typed, Typeds}
use Rattle.go_typed.specs.Trees as sort
use Rattle.go_exprs_rules.specs.Calls.{row_length, all_unassignable, all_as, each_unassignable}
use Rattle.go_exprs_rules.specs.Faults.{fault_at}
use Rattle.go_exprs_rules.specs.Literals.{key_of, is_keyed, has_keys, is_below, first_part, nth_part, at_optional, too_many, elements_failing, keyed_type, given_to_field, keyed_unassignable, keyed_failing, ordered_failing, fields_failing, literal_failing_in, literal_failing, as_optional, fields_take, literal_takes_in, literal_takes}
use Rattle.go_exprs_rules.specs.Settling.{Part, stay, as_type}
use Rattle.go_exprs_rules.specs.Sorts.{underlying_in}
use Rattle.go_exprs_elsewhere.specs.Elsewhere.{Moves, placed, all_placed}
use Rattle.go_exprs_elsewhere.proofs.Calls.{all_unassignable_kept, each_unassignable_kept}
use Rattle.go_exprs_elsewhere.proofs.Parts.{key_moved, fails, optional, every, count_kept, either_of, both, map_kept, all_kept, any_kept}
use Rattle.go_exprs_elsewhere.proofs.Settling.{at_part_kept, unassignable_kept}

module _ (m : Moves) where
  key_kept : (x : Part) → key_of (placed m x) ≡ key_of x
  key_kept (typed f i j l ps) = key_moved m f

  keyed_is_kept : (x : Part) → is_keyed (placed m x) ≡ is_keyed x
  keyed_is_kept (typed f i j l ps) = ap is_some (key_moved m f)

  keys_kept : (xs : List Part) → has_keys (every m xs) ≡ has_keys xs
  keys_kept xs = any_kept m is_keyed keyed_is_kept xs

  first_kept : (ps : Typeds TypeTree) → first_part (all_placed m ps) ≡ optional m (first_part ps)
  first_kept sort.none = refl
  first_kept (sort.more x xs) = refl
  first_kept (sort.skip xs) = refl

  nth_kept : (xs : List Part) (n : ℕ) → nth_part (every m xs) n ≡ optional m (nth_part xs n)
  nth_kept [] n = refl
  nth_kept (x ∷ xs) zero = refl
  nth_kept (x ∷ xs) (suc n) = nth_kept xs n

  optional_kept : (o : Option Part) → at_optional (optional m o) ≡ fails m (at_optional o)
  optional_kept None = refl
  optional_kept (Some x) = at_part_kept m code.ConstIndex x

  many_kept : (o : Option ℕ) (xs : List Part) → too_many o (every m xs) ≡ fails m (too_many o xs)
  many_kept None xs = refl
  many_kept (Some n) xs = ap at_optional (nth_kept xs n) ∙ optional_kept (nth_part xs n)

  module _ (rights : Rights) where
    elements_kept : (i j : ℕ) (t : TypeTree) (limit : Option ℕ) (xs : List Part) → elements_failing rights (m.token i) (m.token j) t limit (every m xs) ≡ fails m (elements_failing rights i j t limit xs)
    elements_kept i j t limit xs =
        ap (λ b. if b then fault_at code.Operands (m.token i) (m.token j) else each_unassignable rights t (every m xs) ++ too_many limit (every m xs)) (keys_kept xs)
        ∙ either_of m (has_keys xs) (fault_at code.Operands (m.token i) (m.token j)) (each_unassignable rights t (every m xs) ++ too_many limit (every m xs)) (fault_at code.Operands i j) (each_unassignable rights t xs ++ too_many limit xs) refl
        (both m (each_unassignable rights t (every m xs)) (too_many limit (every m xs)) (each_unassignable rights t xs) (too_many limit xs) (each_unassignable_kept m rights t xs) (many_kept limit xs))

    field_kept : (t : Option TypeTree) (o : Option Part) → given_to_field rights t (optional m o) ≡ fails m (given_to_field rights t o)
    field_kept (Some t) (Some x) = unassignable_kept m rights t x
    field_kept (Some t) None = refl
    field_kept None (Some x) = refl
    field_kept None None = refl

    keyed_all_kept : (ts : TypeRow) (xs : List Part) → keyed_unassignable rights ts (every m xs) ≡ fails m (keyed_unassignable rights ts xs)
    keyed_all_kept ts [] = refl
    keyed_all_kept ts (typed f i j l ps ∷ xs) =
        let x = typed f i j l ps in
        both m (given_to_field rights (keyed_type ts (key_of (placed m x))) (first_part (all_placed m ps))) (keyed_unassignable rights ts (every m xs)) (given_to_field rights (keyed_type ts (key_of x)) (first_part ps)) (keyed_unassignable rights ts xs)
        (ap (λ o. given_to_field rights (keyed_type ts o) (first_part (all_placed m ps))) (key_moved m f) ∙ ap (given_to_field rights (keyed_type ts (key_of x))) (first_kept ps) ∙ field_kept (keyed_type ts (key_of x)) (first_part ps)) (keyed_all_kept ts xs)

    keyed_kept : (i j : ℕ) (ts : TypeRow) (xs : List Part) → keyed_failing rights (m.token i) (m.token j) ts (every m xs) ≡ fails m (keyed_failing rights i j ts xs)
    keyed_kept i j ts xs =
        ap (λ b. if b then keyed_unassignable rights ts (every m xs) else fault_at code.Operands (m.token i) (m.token j)) (all_kept m (λ x. is_below (row_length ts) (key_of x)) (λ x. ap (is_below (row_length ts)) (key_kept x)) xs)
        ∙ either_of m (list_all (λ x. is_below (row_length ts) (key_of x)) xs) (keyed_unassignable rights ts (every m xs)) (fault_at code.Operands (m.token i) (m.token j)) (keyed_unassignable rights ts xs) (fault_at code.Operands i j) (keyed_all_kept ts xs) refl

    ordered_kept : (i j : ℕ) (ts : TypeRow) (xs : List Part) → ordered_failing rights (m.token i) (m.token j) ts (every m xs) ≡ fails m (ordered_failing rights i j ts xs)
    ordered_kept i j ts xs =
        ap (λ n. if row_length ts == n then all_unassignable rights ts (every m xs) else fault_at code.Count (m.token i) (m.token j)) (count_kept m xs)
        ∙ either_of m (row_length ts == length xs) (all_unassignable rights ts (every m xs)) (fault_at code.Count (m.token i) (m.token j)) (all_unassignable rights ts xs) (fault_at code.Count i j) (all_unassignable_kept m rights ts xs) refl

    fields_kept : (i j : ℕ) (ts : TypeRow) (xs : List Part) → fields_failing rights (m.token i) (m.token j) ts (every m xs) ≡ fails m (fields_failing rights i j ts xs)
    fields_kept i j ts [] = refl
    fields_kept i j ts (x ∷ xs) =
        ap (λ b. if b then keyed_failing rights (m.token i) (m.token j) ts (every m (x ∷ xs)) else ordered_failing rights (m.token i) (m.token j) ts (every m (x ∷ xs))) (keys_kept (x ∷ xs))
        ∙ either_of m (has_keys (x ∷ xs)) (keyed_failing rights (m.token i) (m.token j) ts (every m (x ∷ xs))) (ordered_failing rights (m.token i) (m.token j) ts (every m (x ∷ xs))) (keyed_failing rights i j ts (x ∷ xs)) (ordered_failing rights i j ts (x ∷ xs))
        (keyed_kept i j ts (x ∷ xs)) (ordered_kept i j ts (x ∷ xs))

    literal_in_kept : (i j : ℕ) (u : Option TypeTree) (xs : List Part) → literal_failing_in rights (m.token i) (m.token j) u (every m xs) ≡ fails m (literal_failing_in rights i j u xs)
    literal_in_kept i j (Some (array n t)) xs = elements_kept i j t (Some n) xs
    literal_in_kept i j (Some (slice t)) xs = elements_kept i j t None xs
    literal_in_kept i j (Some (structure ns ts)) xs = fields_kept i j ts xs
    literal_in_kept i j u xs = refl

    pub literal_kept : (i j : ℕ) (t : Option TypeTree) (xs : List Part) → literal_failing rights (m.token i) (m.token j) t (every m xs) ≡ fails m (literal_failing rights i j t xs)
    literal_kept i j t xs = literal_in_kept i j (underlying_in rights t) xs

    fields_take_kept : (ts : TypeRow) (xs : List Part) → fields_take ts (every m xs) ≡ fields_take ts xs
    fields_take_kept ts xs =
        ap (λ b. if b then map (λ x. as_optional (keyed_type ts (key_of x))) (every m xs) else all_as ts) (keys_kept xs)
        ∙ ap (λ ks. if has_keys xs then ks else all_as ts) (map_kept m (λ x. as_optional (keyed_type ts (key_of x))) (λ x. ap (λ o. as_optional (keyed_type ts o)) (key_kept x)) xs)

    takes_in_kept : (u : Option TypeTree) (xs : List Part) → literal_takes_in u (every m xs) ≡ literal_takes_in u xs
    takes_in_kept (Some (array n t)) xs = map_kept m (λ x. as_type t) (λ x. refl) xs
    takes_in_kept (Some (slice t)) xs = map_kept m (λ x. as_type t) (λ x. refl) xs
    takes_in_kept (Some (structure ns ts)) xs = fields_take_kept ts xs
    takes_in_kept u xs = map_kept m (λ x. stay) (λ x. refl) xs

    pub literal_takes_kept : (t : Option TypeTree) (xs : List Part) → literal_takes rights t (every m xs) ≡ literal_takes rights t xs
    literal_takes_kept t xs = takes_in_kept (underlying_in rights t) xs
