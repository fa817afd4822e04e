-- What the elements of `append` take, by the type of the slice's.
use Rattle.std.specs.Prelude.{Option, Some, None}
use Rattle.go_types.specs.Trees.{TypeTree}
use Rattle.go_exprs_rules.specs.Settling.{Take, default, as_type}

abbrev pub element_take : Option TypeTree → Take
element_take (Some t) = as_type t
element_take None = default
