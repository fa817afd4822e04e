-- What the rules say of some types, worked out by hand from the Go specification.
use Rattle.std.specs.Prelude.{◌≡◌, ℕ, List, [], ◌∷◌, Some}
use Rattle.go_ints.specs.declared.kinds.Kind.TheVariants as kind
use Rattle.go_types.specs.declared.shape.Shape.{Shape}
use Rattle.go_types.specs.declared.shape.Shape.TheVariants as shape
use Rattle.go_types.specs.declared.shape.Field.{Field}
use Rattle.go_types.specs.Trees.{TypeTree, text, integer, array, slice, structure, function, declared, none, row, Identical}
use Rattle.go_types.specs.Relations.{Rights, Underlying, Assignable, Comparable, Scalars}
use Rattle.go_types.specs.Tables.{type_of}

abbrev pub int : TypeTree
int = integer kind.Int

-- a field name of one letter
abbrev pub named : ℕ → List ℕ
named letter = letter ∷ []

-- `type D0 []int`, `type D1 D0`, `type D2 [3]D3`, `type D3 struct { a int; b string }` and `type D4 struct { next []D4 }`
abbrev pub rights : Rights
rights =
    Some (slice int) ∷ Some (declared 0) ∷ Some (array 3 (declared 3)) ∷ Some (structure (named 97 ∷ named 98 ∷ []) (row (int ∷ text ∷ [])))
    ∷ Some (structure (named 97 ∷ []) (row (slice (declared 4) ∷ []))) ∷ []

abbrev pub field : ℕ → ℕ → Field
field letter type = record { name = letter ∷ []; ty = type }

-- `int`, `[]int`, `struct { a int; b []int }` and the declared type 0
abbrev pub shapes : List Shape
shapes = shape.Int kind.Int ∷ shape.Slice 0 ∷ shape.Struct (field 97 0 ∷ field 98 1 ∷ []) ∷ shape.Named 0 ∷ []

pub record Examples : Type 0 where
  -- identity
  pub same_arrays : Identical (array 3 int) (array 3 int)
  pub other_lengths : Identical (array 3 int) (array 4 int) → ⊥
  pub other_names : Identical (structure (named 97 ∷ []) (row (int ∷ []))) (structure (named 98 ∷ []) (row (int ∷ []))) → ⊥
  pub other_order : Identical (function (row (int ∷ text ∷ [])) none) (function (row (text ∷ int ∷ [])) none) → ⊥
  pub other_kinds : Identical int (integer kind.Int64) → ⊥
  -- a declared type is identical to itself alone
  pub declared_itself : Identical (declared 0) (declared 0)
  pub declared_other : Identical (declared 0) (declared 1) → ⊥
  pub declared_right : Identical (declared 0) (slice int) → ⊥
  -- underlying types
  pub at_once : Underlying rights (declared 0) (slice int)
  pub by_another : Underlying rights (declared 1) (slice int)
  pub its_own : Underlying rights (slice (declared 0)) (slice (declared 0))
  -- assignability
  pub from_literal : Assignable rights (slice int) (declared 0)
  pub to_literal : Assignable rights (declared 1) (slice int)
  pub both_named : Assignable rights (declared 0) (declared 1) → ⊥
  pub predeclared : Assignable rights int (integer kind.Int64) → ⊥
  -- comparability
  pub array_of_structs : Comparable rights (declared 2)
  pub slices : Comparable rights (slice int) → ⊥
  pub function_field : Comparable rights (structure (named 102 ∷ []) (row (function none none ∷ []))) → ⊥
  pub slice_of_itself : Comparable rights (declared 4) → ⊥
  -- scalars
  pub three_structs : Scalars rights (declared 2) 6
  pub empty_arrays : Scalars rights (array 5 (array 0 int)) 5
  pub no_fields : Scalars rights (structure [] none) 1
  pub hollow_structs : Scalars rights (array 4 (structure (named 97 ∷ named 98 ∷ []) (row (array 0 text ∷ array 0 text ∷ [])))) 4
  -- the types of numbers
  pub struct_type : type_of shapes 2 ≡ structure (named 97 ∷ named 98 ∷ []) (row (int ∷ slice int ∷ []))
  pub declared_type : type_of shapes 3 ≡ declared 0
