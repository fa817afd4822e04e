-- What the functions say of some types, worked out by hand from the Go specification.
use Rattle.std.specs.Prelude.{◌≡◌, suc, true, false, [], ◌∷◌, Some, None}
use Rattle.go_ints.specs.declared.kinds.Kind.TheVariants as kind
use Rattle.go_types.specs.Trees.{text, integer, array, slice, structure, function, declared, none, row}
use Rattle.go_types.specs.Relations.{Rights}
use Rattle.go_types.specs.Examples.{int, named, rights}
use Rattle.go_types_relations.specs.Identity.{is_identical}
use Rattle.go_types_relations.specs.Tests.{underlying_of, is_comparable, is_assignable}
use Rattle.go_types_relations.specs.Sizes.{scalars_of}
use Rattle.go_types_relations.specs.Zeros.{zero_of, number_zero, empty_text, elements, fields, nil_slice, nil_function, no_zeros, more_zeros}
use Rattle.go_types_relations.specs.Renaming.{IsOneToOne, AreRenamed}

-- `type D0 []int` and `type D1 []int`
abbrev pub twins : Rights
twins = Some (slice int) ∷ Some (slice int) ∷ []

-- `type D0 []D0`, and the same after a declared type without a right side
abbrev pub own_slice : Rights
own_slice = Some (slice (declared 0)) ∷ []

abbrev pub moved_slice : Rights
moved_slice = None ∷ Some (slice (declared 1)) ∷ []

pub record Examples : Type 0 where
  -- identity
  pub same_arrays : is_identical (array 3 int) (array 3 int) ≡ true
  pub other_lengths : is_identical (array 3 int) (array 4 int) ≡ false
  pub other_kinds : is_identical int (integer kind.Int64) ≡ false
  pub declared_right : is_identical (declared 0) (slice int) ≡ false
  -- underlying types
  pub by_another : underlying_of rights (declared 1) ≡ Some (slice int)
  pub no_right : underlying_of (None ∷ []) (declared 0) ≡ None
  pub of_itself : underlying_of (Some (declared 0) ∷ []) (declared 0) ≡ None
  pub by_slice : underlying_of rights (declared 4) ≡ Some (structure (named 97 ∷ []) (row (slice (declared 4) ∷ [])))
  -- assignability
  pub to_twin : is_assignable twins (declared 0) (declared 1) ≡ false
  pub to_itself : is_assignable twins (declared 0) (declared 0) ≡ true
  pub to_literal : is_assignable twins (declared 0) (slice int) ≡ true
  pub from_literal : is_assignable twins (slice int) (declared 0) ≡ true
  pub to_right_side : is_assignable rights (declared 1) (declared 0) ≡ false
  pub open_to_itself : is_assignable (None ∷ []) (declared 0) (declared 0) ≡ true
  pub open_to_literal : is_assignable (None ∷ []) (declared 0) (slice int) ≡ false
  -- comparability
  pub array_of_structs : is_comparable rights (declared 2) ≡ true
  pub slices : is_comparable rights (slice int) ≡ false
  pub all_fields : is_comparable [] (structure (named 97 ∷ named 98 ∷ []) (row (int ∷ text ∷ []))) ≡ true
  pub second_field : is_comparable [] (structure (named 97 ∷ named 98 ∷ []) (row (int ∷ slice int ∷ []))) ≡ false
  pub by_slice_comparable : is_comparable rights (declared 4) ≡ false
  pub open_comparable : is_comparable (None ∷ []) (declared 0) ≡ false
  -- scalars
  pub both_dimensions : scalars_of [] (array 2 (array 3 int)) ≡ Some 6
  pub three_structs : scalars_of rights (declared 2) ≡ Some 6
  pub empty_arrays : scalars_of [] (array 5 (array 0 int)) ≡ Some 5
  pub no_fields : scalars_of [] (structure [] none) ≡ Some 1
  pub by_slice_scalars : scalars_of rights (declared 4) ≡ Some 1
  pub open_scalars : scalars_of (None ∷ []) (array 2 (declared 0)) ≡ None
  -- zero values
  pub integer_zero : zero_of [] int ≡ Some number_zero
  pub function_zero : zero_of [] (function none none) ≡ Some nil_function
  pub slice_zero : zero_of (None ∷ []) (slice (declared 0)) ≡ Some nil_slice
  pub structs_zero : zero_of rights (declared 2) ≡ Some (elements 3 (fields (more_zeros number_zero (more_zeros empty_text no_zeros))))
  pub by_slice_zero : zero_of rights (declared 4) ≡ Some (fields (more_zeros nil_slice no_zeros))
  pub open_zero : zero_of (None ∷ []) (declared 0) ≡ None
  -- renaming
  pub one_later : AreRenamed (λ n. suc n) own_slice moved_slice
  pub each_its_own : IsOneToOne (λ n. suc n)
  pub another : AreRenamed (λ n. suc n) own_slice own_slice → ⊥
