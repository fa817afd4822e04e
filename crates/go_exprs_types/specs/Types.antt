-- Types of a table.
use Rattle.std.specs.Prelude.{◌≡◌, ℕ, ◌<◌, length}
use Rattle.go_constants.specs.declared.representing.Basic.{Basic}
use Rattle.go_constants.specs.declared.representing.Basic.TheVariants as basic
use Rattle.go_types.specs.Trees.{TypeTree, boolean, text, integer}
use Rattle.go_types.specs.Tables.{Table, type_of}

-- the type of this number in a table
abbrev pub IsOf : Table → ℕ → TypeTree → Type 0
IsOf t i a = (i < length t.shapes) × (type_of t.shapes i ≡ a)

abbrev pub basic_tree : Basic → TypeTree
basic_tree basic.Bool = boolean
basic_tree basic.Text = text
basic_tree (basic.Int k) = integer k
