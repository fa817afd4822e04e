-- Zero values of types in a table, and their sizes.
use Rattle.std.specs.Prelude.{ℕ, suc, ◌+◌, ◌<◌, List, Option, Some, None, map}
use Rattle.std.specs.List.{AllByRecursion}
use Rattle.go_types.specs.declared.shape.Field.{Field}
use Rattle.go_types.specs.Trees.{TypeTree, TypeRow, row}
use Rattle.go_types.specs.Relations.{Rights}
use Rattle.go_types_relations.specs.Zeros.{Zero, elements, fields, ZeroRow, no_zeros, more_zeros}
use Rattle.go_meaning.specs.Planning.{zero_in}
use Rattle.go_meaning.specs.Values.{Value, zero_value}

-- The types of fields are among the first n of a table.
abbrev pub AreKnown : ℕ → List Field → Type 0
AreKnown n fs = AllByRecursion (λ p. p < n) (map (λ f. f.ty) fs)

-- the types of fields
abbrev pub row_of : (ℕ → TypeTree) → List Field → TypeRow
row_of type_of fs = row (map (λ f. type_of f.ty) fs)

-- the zero values of fields
abbrev pub zeros_in : Rights → (ℕ → TypeTree) → List Field → List Value
zeros_in rights type_of fs = map (λ f. zero_value (zero_in rights (type_of f.ty))) fs

-- how deep and wide a zero value is
abbrev mutual
  pub zero_size : Zero → ℕ
  zero_size (elements n z) = suc (zero_size z)
  zero_size (fields zs) = suc (row_size zs)
  zero_size _ = 0

  pub row_size : ZeroRow → ℕ
  row_size no_zeros = 0
  row_size (more_zeros z zs) = suc (zero_size z + row_size zs)

abbrev pub told_size : Option Zero → ℕ
told_size None = 0
told_size (Some z) = zero_size z

abbrev pub told_row_size : Option ZeroRow → ℕ
told_row_size None = 0
told_row_size (Some zs) = row_size zs
