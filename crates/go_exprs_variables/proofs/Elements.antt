-- Elements of composite literals, where variables stand in place of constants in them.
use Rattle.std.proofs.Common.{◌≡◌, ◌∙◌, ◌==◌, ℕ, zero, suc, Bool, true, false, List, [], ◌++◌, length, Option, Some, None, refl, sym, ap}
use Rattle.std.specs.Prelude.{◌&&◌, ◌||◌, if◌then◌else◌}
use Rattle.std.specs.List.{list_all}
use Rattle.go_base.specs.declared.fault.FaultCode.TheVariants as code
use Rattle.go_types.specs.Trees.{TypeTree, TypeRow}
use Rattle.go_types.specs.Trees as types
use Rattle.go_types.specs.Relations.{Rights}
use Rattle.go_types_relations.specs.Identity.{is_identical}
use Rattle.go_typed.specs.Trees.{parts_of}
use Rattle.go_exprs_rules.specs.declared.fault.TypeFault.{TypeFault}
use Rattle.go_exprs_rules.specs.Calls.{row_length, all_unassignable, each_unassignable}
use Rattle.go_exprs_rules.specs.Faults.{fault_at}
use Rattle.go_exprs_rules.specs.Literals.{key_of, is_keyed, has_keys, is_below, first_part, nth_part, at_optional, too_many, elements_failing, keyed_type, given_to_field, keyed_unassignable, keyed_failing, ordered_failing}
use Rattle.go_exprs_rules.specs.Settling.{Part, unassignable}
use Rattle.go_exprs_variables.specs.Operands.{Alike, none_alike, one_alike, InOrder, none_in_order, next_in_order, Keyed, none_keyed, one_keyed}
use Rattle.go_exprs_variables.proofs.Given.{no_place, unassignable_kept}
use Rattle.go_exprs_variables.proofs.Parts.{both_none, none_of_both, holds, held}

module _ (rights : Rights) (itself : (t : TypeTree) → is_identical t t ≡ true) where
  -- ---- elements without keys

  keys_alike : (t : TypeTree) (xs ys : List Part) → Alike rights t xs ys → has_keys ys ≡ has_keys xs
  keys_alike t xs ys none_alike = refl
  keys_alike t xs ys (one_alike x y us vs k p rest) = ap (λ b. b || has_keys vs) k ∙ ap (λ b. is_keyed x || b) (keys_alike t us vs rest)

  each_alike : (t : TypeTree) (xs ys : List Part) → Alike rights t xs ys → each_unassignable rights t xs ≡ [] → each_unassignable rights t ys ≡ []
  each_alike t xs ys none_alike e = refl
  each_alike t xs ys (one_alike x y us vs k p rest) e =
      let both = both_none (unassignable rights t x) (each_unassignable rights t us) e in
      none_of_both (unassignable rights t y) (each_unassignable rights t vs) (unassignable_kept rights itself t x y p both.0) (each_alike t us vs rest both.1)

  nth_alike : (t : TypeTree) (xs ys : List Part) (n : ℕ) → Alike rights t xs ys → at_optional (nth_part xs n) ≡ [] → at_optional (nth_part ys n) ≡ []
  nth_alike t xs ys n none_alike e = refl
  nth_alike t xs ys zero (one_alike x y us vs k p rest) e = absurd (no_place code.ConstIndex x e)
  nth_alike t xs ys (suc n) (one_alike x y us vs k p rest) e = nth_alike t us vs n rest e

  many_alike : (t : TypeTree) (limit : Option ℕ) (xs ys : List Part) → Alike rights t xs ys → too_many limit xs ≡ [] → too_many limit ys ≡ []
  many_alike t None xs ys p e = refl
  many_alike t (Some n) xs ys p e = nth_alike t xs ys n p e

  unless_keys : (b : Bool) (fs : List TypeFault) (i j : ℕ) → (if b then fault_at code.Operands i j else fs) ≡ [] → (b ≡ false) × (fs ≡ [])
  unless_keys false fs i j e = (refl, e)
  unless_keys true fs i j e = cc

  -- elements of an array or a slice
  pub elements_row : (i j : ℕ) (t : TypeTree) (limit : Option ℕ) (xs ys : List Part) → Alike rights t xs ys → elements_failing rights i j t limit xs ≡ [] → elements_failing rights i j t limit ys ≡ []
  elements_row i j t limit xs ys p e =
      let ok = unless_keys (has_keys xs) (each_unassignable rights t xs ++ too_many limit xs) i j e in
      let both = both_none (each_unassignable rights t xs) (too_many limit xs) ok.1 in
      ap (λ b. if b then fault_at code.Operands i j else each_unassignable rights t ys ++ too_many limit ys) (keys_alike t xs ys p ∙ ok.0)
      ∙ none_of_both (each_unassignable rights t ys) (too_many limit ys) (each_alike t xs ys p both.0) (many_alike t limit xs ys p both.1)

  -- ---- all fields in order

  order_length : (ts : TypeRow) (xs ys : List Part) → InOrder rights ts xs ys → length ys ≡ length xs
  order_length ts xs ys (none_in_order us) = refl
  order_length ts xs ys (next_in_order t us x y cs bs p rest) = ap (λ n. suc n) (order_length us cs bs rest)

  pub order_given : (ts : TypeRow) (xs ys : List Part) → InOrder rights ts xs ys → all_unassignable rights ts xs ≡ [] → all_unassignable rights ts ys ≡ []
  order_given types.none xs ys (none_in_order us) e = refl
  order_given (types.more t ts) xs ys (none_in_order us) e = refl
  order_given (types.more t ts) xs ys (next_in_order t' us x y cs bs p rest) e =
      let both = both_none (unassignable rights t x) (all_unassignable rights ts cs) e in
      none_of_both (unassignable rights t y) (all_unassignable rights ts bs) (unassignable_kept rights itself t x y p both.0) (order_given ts cs bs rest both.1)

  pub ordered_row : (i j : ℕ) (ts : TypeRow) (xs ys : List Part) → InOrder rights ts xs ys → ordered_failing rights i j ts xs ≡ [] → ordered_failing rights i j ts ys ≡ []
  ordered_row i j ts xs ys p e =
      let ok = holds (row_length ts == length xs) (all_unassignable rights ts xs) code.Count i j e in
      held (row_length ts == length ys) (all_unassignable rights ts ys) code.Count i j (ap (λ n. row_length ts == n) (order_length ts xs ys p) ∙ ok.0) (order_given ts xs ys p ok.1)

  -- ---- fields with keys

  below_kept : (ts : TypeRow) (xs ys : List Part) → Keyed rights ts xs ys → list_all (λ x. is_below (row_length ts) (key_of x)) xs ≡ true → list_all (λ x. is_below (row_length ts) (key_of x)) ys ≡ true
  below_kept ts xs ys none_keyed e = refl
  below_kept ts xs ys (one_keyed t x y v u cs bs k m f g p rest) e =
      let both = and_parts (is_below (row_length ts) (key_of x)) (list_all (λ x. is_below (row_length ts) (key_of x)) cs) e in
      ap (λ z. is_below (row_length ts) z && list_all (λ x. is_below (row_length ts) (key_of x)) bs) k ∙ ap (λ b. b && list_all (λ x. is_below (row_length ts) (key_of x)) bs) both.0 ∙ below_kept ts cs bs rest both.1
    where
      and_parts : (b c : Bool) → (b && c) ≡ true → (b ≡ true) × (c ≡ true)
      and_parts true c e = (refl, e)
      and_parts false c e = cc

  keyed_given : (ts : TypeRow) (xs ys : List Part) → Keyed rights ts xs ys → keyed_unassignable rights ts xs ≡ [] → keyed_unassignable rights ts ys ≡ []
  keyed_given ts xs ys none_keyed e = refl
  keyed_given ts xs ys (one_keyed t x y v u cs bs k m f g p rest) e =
      let both = both_none (given_to_field rights (keyed_type ts (key_of x)) (first_part (parts_of x))) (keyed_unassignable rights ts cs) e in
      let old : unassignable rights t v ≡ [] = sym (ap (λ z. given_to_field rights z (first_part (parts_of x))) m ∙ ap (given_to_field rights (Some t)) f) ∙ both.0 in
      none_of_both (given_to_field rights (keyed_type ts (key_of y)) (first_part (parts_of y))) (keyed_unassignable rights ts bs)
      (ap (λ z. given_to_field rights (keyed_type ts z) (first_part (parts_of y))) k ∙ ap (λ z. given_to_field rights z (first_part (parts_of y))) m ∙ ap (given_to_field rights (Some t)) g ∙ unassignable_kept rights itself t v u p old)
      (keyed_given ts cs bs rest both.1)

  pub keyed_row : (i j : ℕ) (ts : TypeRow) (xs ys : List Part) → Keyed rights ts xs ys → keyed_failing rights i j ts xs ≡ [] → keyed_failing rights i j ts ys ≡ []
  keyed_row i j ts xs ys p e =
      let ok = holds (list_all (λ x. is_below (row_length ts) (key_of x)) xs) (keyed_unassignable rights ts xs) code.Operands i j e in
      held (list_all (λ x. is_below (row_length ts) (key_of x)) ys) (keyed_unassignable rights ts ys) code.Operands i j (below_kept ts xs ys p ok.0) (keyed_given ts xs ys p ok.1)
