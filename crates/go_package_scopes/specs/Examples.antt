-- A function and a window whose names are their own, and a function that names a local which the package doesn't declare, worked out by hand.
use Rattle.std.specs.Prelude.{[], ◌∷◌}
use Rattle.go_tree.specs.declared.context.Block.TheVariants as block
use Rattle.go_tree.specs.declared.context.Entity.TheVariants as entity
use Rattle.go_tree.specs.declared.object.Declared.{Declared}
use Rattle.go_tree.specs.Uses.{UsesView}
use Rattle.go_types.specs.Trees.{TypeTree}
use Rattle.go_typed.specs.Trees.{Typeds, more, none}
use Rattle.extract_runs.specs.PackageExamples.{first, second, third, body}
use Rattle.go_stmts_scopes.specs.Examples.{all_locals}
use Rattle.go_package_scopes.specs.Own.{IsOwnTree}
use Rattle.go_package_scopes.specs.Runs.{IsRun, IsOwnRun}

-- the variable of `func main() { a := 1; a = a + 2; a = a * 3 }`
abbrev pub the_variable : Declared
the_variable = record { file = 0; name = 3; entity = entity.Variable; block = block.Local 2; scope = record { from = 6; to = 20 } }

abbrev pub declaring : UsesView
declaring = record { objects = []; package_level = []; locals = (the_variable ∷ []) ∷ [] }

-- no variable is declared
abbrev pub lacking : UsesView
lacking = record { objects = []; package_level = []; locals = [] ∷ [] }

-- the statements of the block, and the second one of them
abbrev pub listed : Typeds TypeTree
listed = more first (more second (more third none))

abbrev pub window : Typeds TypeTree
window = more second none

pub record Examples : Type 0 where
  pub function_names : IsOwnTree all_locals [] declaring 0 0 [] body
  pub run : IsRun 6 12 window 2 listed
  pub window_names : IsOwnRun all_locals [] declaring 0 0 6 12 (0 ∷ []) window
  pub unknown : IsOwnTree all_locals [] lacking 0 0 [] body → ⊥
