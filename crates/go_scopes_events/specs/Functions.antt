-- The functions that a file declares, by the tokens of their names.
use Rattle.std.specs.Prelude.{ℕ, suc, ◌&&◌, if◌then◌else◌, List, [], ◌∷◌, map}
use Rattle.go_grammar.specs.Trees.{Tree, first, parts}
use Rattle.go_tree.specs.declared.event.Event.{Event}
use Rattle.go_tree.specs.declared.event.Event.TheVariants as event
use Rattle.go_tree.specs.Contexts.{is_package}
use Rattle.go_tree.specs.Declarations.{is_function}
use Rattle.go_tree.specs.Lists.{functions}
use Rattle.go_tree.specs.Views.{behind_first}

-- those that a tree tells
abbrev pub functions_told : List Event → List ℕ
functions_told [] = []
functions_told (event.Declaration d ∷ es) = if is_package d.block && is_function d.entity then d.name ∷ functions_told es else functions_told es
functions_told (e ∷ es) = functions_told es

-- A function's name is its second token (Go specification: Function declarations).
abbrev pub name_of : Tree → ℕ
name_of f = suc (first f)

-- those of the tree of a file, in order of place
abbrev pub function_names : Tree → List ℕ
function_names t = map name_of (functions (behind_first (parts t)))
