-- The names of functions.
use Rattle.std.specs.Prelude.{ℕ, List}
use Rattle.go_tree.specs.Units.{word}
use Rattle.go_scopes_events.specs.Functions.{name_of}
use Rattle.go_heads.specs.Functions.{Function}

-- The text of a function's second token (Go specification: Function declarations).
abbrev pub function_name : Function → List ℕ
function_name f = word f.file.tokens (name_of f.tree)
