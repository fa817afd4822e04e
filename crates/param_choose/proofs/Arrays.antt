-- What is no array.
use Rattle.std.proofs.Common.{◌≡◌, ℕ, ◌≤◌, false, length, ap}
use Rattle.std.proofs.lemmas.Option.{slice_get_past}
use Rattle.go_types.specs.Tables.{Table, type_of, type_below, tree_at, rights_of}
use Rattle.go_types_relations.specs.Tests.{underlying_of}
use Rattle.go_typed.specs.Trees.{Value}
use Rattle.param_choose.specs.Locals.{is_array_type}
use Rattle.param_choose.specs.Shown.{array_in}

-- a type that is not in the table is none
pub no_array : (types : Table) (t : ℕ) → length types.shapes ≤ t → array_in types (Value t) ≡ false
unfolding type_of type_below
no_array types t h = ap (λ s. is_array_type (underlying_of (rights_of types) (tree_at (type_below t types.shapes) s))) (slice_get_past types.shapes t h)
