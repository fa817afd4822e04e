-- A window and a function that are lexically scoped, and a statement that names a local which isn't in scope, worked out by hand.
use Rattle.std.specs.Prelude.{◌≡◌, ℕ, zero, suc, Bool, true, false, [], ◌∷◌, Some, None}
use Rattle.go_grammar.specs.declared.kind.Arithmetic.TheVariants as arithmetic
use Rattle.go_tree.specs.declared.context.Scope.{Scope}
use Rattle.go_types.specs.Trees.{TypeTree}
use Rattle.go_typed.specs.declared.form.Form.TheVariants as form
use Rattle.go_typed.specs.Trees.{Nothing, Typed}
use Rattle.go_meaning_simulation.specs.Links.{nowhere}
use Rattle.extract_trees.specs.Examples.{node, variable, number, operation, statements}
use Rattle.extract_runs.specs.Holes.{never}
use Rattle.extract_runs.specs.Lexical.{Locals}
use Rattle.extract_runs.specs.PackageExamples.{body}
use Rattle.go_stmts_scopes.specs.Locals.{behind_all, StatementHas, ListHas, FunctionHas}
use Rattle.go_stmts_scopes.specs.Scoped.{tested}
use Rattle.go_stmts_scopes.specs.Standing.{Extents, StandInScope, StandsInScope}
use Rattle.go_stmts_scopes.specs.Shapes.{AreStatements, IsFunction, IsStatement}

-- all locals may be named
abbrev pub any : ℕ → Bool
any k = true

abbrev pub all_locals : Locals
all_locals = tested any any any true

-- `a = a + 2`
abbrev pub assignment : Typed TypeTree
assignment = node (form.Assign 1) 7 12 Nothing true false (Some (variable (form.Local 0) 7) ∷ Some (operation arithmetic.Add 9 (variable (form.Local 0) 9) (number 2 11)) ∷ [])

-- In the function the one variable is in scope behind its definition, up to the end of the block.
abbrev pub behind_definition : Scope
behind_definition = record { from = 6; to = 20 }

abbrev pub one_variable : Extents
one_variable zero = Some behind_definition
one_variable (suc k) = None

-- In the window a is in scope, and b behind its definition.
abbrev pub whole_block : Scope
whole_block = record { from = 4; to = 30 }

abbrev pub behind_window_definition : Scope
behind_window_definition = record { from = 13; to = 30 }

abbrev pub two_variables : Extents
two_variables zero = Some whole_block
two_variables (suc zero) = Some behind_window_definition
two_variables (suc (suc k)) = None

abbrev pub no_variables : Extents
no_variables k = None

pub record Examples : Type 0 where
  -- `b := a + 1; b = b * 2`, where a is in scope: behind it b is so too
  pub window_shape : AreStatements statements
  pub window : ListHas all_locals [] never nowhere (0 ∷ []) statements
  pub behind : behind_all (0 ∷ []) statements ≡ 1 ∷ 0 ∷ []
  -- its names stand where they may
  pub window_names : StandInScope all_locals [] two_variables whole_block 8 19 (0 ∷ []) statements
  -- `func main() { a := 1; a = a + 2; a = a * 3 }`
  pub function_shape : IsFunction body
  pub function : FunctionHas all_locals [] never nowhere [] body
  -- its names stand where they may
  pub function_names : StandsInScope all_locals [] one_variable [] body
  -- `a = a + 2`, where a isn't in scope
  pub assignment_shape : IsStatement assignment
  pub unknown_names : StandsInScope all_locals [] no_variables [] assignment → ⊥
  pub unknown : StatementHas all_locals [] never nowhere [] assignment → ⊥
