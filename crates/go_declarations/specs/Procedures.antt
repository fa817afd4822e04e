-- Functions without parameters and results.
use Rattle.std.specs.Prelude.{Bool, true, false}
use Rattle.go_types.specs.Trees.{TypeRow, none, more}

abbrev pub is_none : TypeRow → Bool
is_none none = true
is_none (more t ts) = false
