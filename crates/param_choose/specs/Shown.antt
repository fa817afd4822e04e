-- What the program's own words show.
use Rattle.std.specs.Prelude.{ℕ, Bool, List, map, Option}
use Rattle.go_constants.specs.declared.values.Const.{Const}
use Rattle.go_types.specs.Tables.{Table, type_of, rights_of}
use Rattle.go_typed.specs.Trees.{Sort, sort_mapped}
use Rattle.go_typed.specs.Views.{sort_view}
use Rattle.param_choose.specs.declared.holes.Hole.{Hole as FoundHole}
use Rattle.param_choose.specs.declared.variables.Variable.{Variable as FoundVariable}
use Rattle.param_choose.specs.Holes.{Hole, hole_values}
use Rattle.param_choose.specs.Locals.{Variable, is_array}

abbrev pub variable_view : FoundVariable → Variable ℕ
variable_view v = record { local = v.local; type = v.ty }

abbrev pub hole_view : FoundHole → Hole ℕ
hole_view h = record { node = h.node; from = h.from; upto = h.upto; sort = sort_view h.sort.now }

abbrev pub holes_view : List FoundHole → List (Hole ℕ)
holes_view hs = map hole_view hs

-- the values of holes
abbrev pub values_view : List FoundHole → List (Option Const)
values_view hs = hole_values (holes_view hs)

-- whether a value of a sort is an array, by the numbers of types
abbrev pub array_in : Table → Sort ℕ → Bool
array_in t s = is_array (rights_of t) (sort_mapped (type_of t.shapes) s)
