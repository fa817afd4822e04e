-- The rules on composite literals with other numbers of declared types.
use Rattle.std.proofs.Common.{◌≡◌, ◌∙◌, ℕ, zero, suc, List, [], ◌∷◌, map, Option, Some, None, refl, ap}
use Rattle.go_types.specs.Trees.{TypeTree, array, slice, structure, TypeRow}
use Rattle.go_types.specs.Relations.{Rights}
use Rattle.go_types_relations.specs.Renaming.{renamed, renamed_row, IsOneToOne, AreRenamed}
use Rattle.go_typed.specs.Trees.{typed, Typeds, parts_of}
use Rattle.go_typed.specs.Trees as sort
use Rattle.go_exprs_rules.specs.Calls.{row_length, all_as}
use Rattle.go_exprs_rules.specs.Literals.{key_of, is_keyed, has_keys, is_below, first_part, nth_part, at_optional, too_many, elements_failing, keyed_type, given_to_field, keyed_unassignable, keyed_failing, ordered_failing, fields_failing, literal_failing_in, literal_failing, as_optional, fields_take, literal_takes_in, literal_takes, literal_sort}
use Rattle.go_exprs_rules.specs.Settling.{Part, stay, as_type}
use Rattle.go_exprs_rules.specs.Sorts.{underlying_in}
use Rattle.go_renumbering.specs.Renumbered.{stands_renamed, part_renamed}
use Rattle.go_renumbering.proofs.Calls.{all_as_same, each_take, all_unassignable_kept, each_unassignable_kept}
use Rattle.go_renumbering.proofs.Indexes.{type_at_same, value_or_same}
use Rattle.go_renumbering.proofs.Operators.{takes_renamed}
use Rattle.go_renumbering.proofs.Parts.{branches, optional, every, inner, count_kept, map_kept, all_kept, any_kept}
use Rattle.go_renumbering.proofs.Settling.{take_renamed, at_part_kept, unassignable_kept}
use Rattle.go_renumbering.proofs.Sorts.{maybe, row_length_same, underlying_in_same}

module _ (name : ℕ → ℕ) where
  key_kept : (x : Part) → key_of (part_renamed name x) ≡ key_of x
  key_kept (typed f i j l ps) = refl

  keyed_is_kept : (x : Part) → is_keyed (part_renamed name x) ≡ is_keyed x
  keyed_is_kept (typed f i j l ps) = refl

  keys_kept : (xs : List Part) → has_keys (every name xs) ≡ has_keys xs
  keys_kept xs = any_kept name is_keyed is_keyed keyed_is_kept xs

  first_kept : (ps : Typeds TypeTree) → first_part (inner name ps) ≡ optional name (first_part ps)
  first_kept sort.none = refl
  first_kept (sort.more x xs) = refl
  first_kept (sort.skip xs) = refl

  nth_kept : (xs : List Part) (n : ℕ) → nth_part (every name xs) n ≡ optional name (nth_part xs n)
  nth_kept [] n = refl
  nth_kept (x ∷ xs) zero = refl
  nth_kept (x ∷ xs) (suc n) = nth_kept xs n

  optional_kept : (o : Option Part) → at_optional (optional name o) ≡ at_optional o
  optional_kept None = refl
  optional_kept (Some x) = at_part_kept name _ x

  many_kept : (o : Option ℕ) (xs : List Part) → too_many o (every name xs) ≡ too_many o xs
  many_kept None xs = refl
  many_kept (Some n) xs = ap at_optional (nth_kept xs n) ∙ optional_kept (nth_part xs n)

  keyed_type_same : (ts : TypeRow) (n : Option ℕ) → keyed_type (renamed_row name ts) n ≡ maybe name (keyed_type ts n)
  keyed_type_same ts None = refl
  keyed_type_same ts (Some n) = type_at_same name ts n

  below_same : (ts : TypeRow) (x : Part) → is_below (row_length (renamed_row name ts)) (key_of (part_renamed name x)) ≡ is_below (row_length ts) (key_of x)
  below_same ts x = let e = row_length_same name ts in let f = key_kept x in cc

  part_type_at : (ts : TypeRow) (x : Part) → keyed_type (renamed_row name ts) (key_of (part_renamed name x)) ≡ maybe name (keyed_type ts (key_of x))
  part_type_at ts x = ap (keyed_type (renamed_row name ts)) (key_kept x) ∙ keyed_type_same ts (key_of x)

  taken_same : (o : Option TypeTree) → as_optional (maybe name o) ≡ take_renamed name (as_optional o)
  taken_same None = refl
  taken_same (Some t) = refl

  keyed_takes : (ts : TypeRow) (xs : List Part) → map (λ x. as_optional (keyed_type (renamed_row name ts) (key_of x))) (every name xs) ≡ takes_renamed name (map (λ x. as_optional (keyed_type ts (key_of x))) xs)
  keyed_takes ts xs =
      map_kept name (take_renamed name) (λ x. as_optional (keyed_type (renamed_row name ts) (key_of x))) (λ x. as_optional (keyed_type ts (key_of x)))
      (λ x. ap as_optional (part_type_at ts x) ∙ taken_same (keyed_type ts (key_of x))) xs

  fields_take_kept : (ts : TypeRow) (xs : List Part) → fields_take (renamed_row name ts) (every name xs) ≡ takes_renamed name (fields_take ts xs)
  fields_take_kept ts xs =
      let e = keys_kept xs in
      let f = keyed_takes ts xs in
      let g = all_as_same name ts in
      let h = branches (takes_renamed name) (has_keys xs) (map (λ x. as_optional (keyed_type ts (key_of x))) xs) (all_as ts) in
      cc

  takes_in_kept : (o : Option TypeTree) (xs : List Part) → literal_takes_in (maybe name o) (every name xs) ≡ takes_renamed name (literal_takes_in o xs)
  takes_in_kept (Some (array n t)) xs = each_take name (as_type t) (as_type (renamed name t)) refl xs
  takes_in_kept (Some (slice t)) xs = each_take name (as_type t) (as_type (renamed name t)) refl xs
  takes_in_kept (Some (structure ns ts)) xs = fields_take_kept ts xs
  takes_in_kept o xs = each_take name stay stay refl xs

  pub literal_sort_kept : (o : Option TypeTree) → literal_sort (maybe name o) ≡ stands_renamed name (literal_sort o)
  literal_sort_kept o = value_or_same name o

module _ (name : ℕ → ℕ) (one : IsOneToOne name) (old new : Rights) (same : AreRenamed name old new) where
  elements_kept : (i j : ℕ) (t : TypeTree) (limit : Option ℕ) (xs : List Part) → elements_failing new i j (renamed name t) limit (every name xs) ≡ elements_failing old i j t limit xs
  elements_kept i j t limit xs =
      let e = keys_kept name xs in
      let f = each_unassignable_kept name one old new same t xs in
      let g = many_kept name limit xs in
      cc

  field_kept : (t : Option TypeTree) (o : Option Part) → given_to_field new (maybe name t) (optional name o) ≡ given_to_field old t o
  field_kept (Some t) (Some x) = unassignable_kept name one old new same t x
  field_kept (Some t) None = refl
  field_kept None (Some x) = refl
  field_kept None None = refl

  first_inner : (x : Part) → first_part (parts_of (part_renamed name x)) ≡ optional name (first_part (parts_of x))
  first_inner (typed f i j l ps) = first_kept name ps

  keyed_all_kept : (ts : TypeRow) (xs : List Part) → keyed_unassignable new (renamed_row name ts) (every name xs) ≡ keyed_unassignable old ts xs
  keyed_all_kept ts [] = refl
  keyed_all_kept ts (x ∷ xs) =
      let e = part_type_at name ts x in
      let f = first_inner x in
      let g = field_kept (keyed_type ts (key_of x)) (first_part (parts_of x)) in
      let h = keyed_all_kept ts xs in
      cc

  keyed_kept : (i j : ℕ) (ts : TypeRow) (xs : List Part) → keyed_failing new i j (renamed_row name ts) (every name xs) ≡ keyed_failing old i j ts xs
  keyed_kept i j ts xs =
      let e = all_kept name (λ x. is_below (row_length (renamed_row name ts)) (key_of x)) (λ x. is_below (row_length ts) (key_of x)) (below_same name ts) xs in
      let f = keyed_all_kept ts xs in
      cc

  ordered_kept : (i j : ℕ) (ts : TypeRow) (xs : List Part) → ordered_failing new i j (renamed_row name ts) (every name xs) ≡ ordered_failing old i j ts xs
  ordered_kept i j ts xs =
      let e = row_length_same name ts in
      let f = count_kept name xs in
      let g = all_unassignable_kept name one old new same ts xs in
      cc

  fields_kept : (i j : ℕ) (ts : TypeRow) (xs : List Part) → fields_failing new i j (renamed_row name ts) (every name xs) ≡ fields_failing old i j ts xs
  fields_kept i j ts [] = refl
  fields_kept i j ts (x ∷ xs) =
      let e = keys_kept name (x ∷ xs) in
      let f = keyed_kept i j ts (x ∷ xs) in
      let g = ordered_kept i j ts (x ∷ xs) in
      cc

  literal_in_kept : (i j : ℕ) (o : Option TypeTree) (xs : List Part) → literal_failing_in new i j (maybe name o) (every name xs) ≡ literal_failing_in old i j o xs
  literal_in_kept i j (Some (array n t)) xs = elements_kept i j t (Some n) xs
  literal_in_kept i j (Some (slice t)) xs = elements_kept i j t None xs
  literal_in_kept i j (Some (structure ns ts)) xs = fields_kept i j ts xs
  literal_in_kept i j o xs = refl

  pub literal_kept : (i j : ℕ) (o : Option TypeTree) (xs : List Part) → literal_failing new i j (maybe name o) (every name xs) ≡ literal_failing old i j o xs
  literal_kept i j o xs = ap (λ u. literal_failing_in new i j u (every name xs)) (underlying_in_same name one old new same o) ∙ literal_in_kept i j (underlying_in old o) xs

  pub literal_takes_kept : (o : Option TypeTree) (xs : List Part) → literal_takes new (maybe name o) (every name xs) ≡ takes_renamed name (literal_takes old o xs)
  literal_takes_kept o xs = ap (λ u. literal_takes_in u (every name xs)) (underlying_in_same name one old new same o) ∙ takes_in_kept name (underlying_in old o) xs
