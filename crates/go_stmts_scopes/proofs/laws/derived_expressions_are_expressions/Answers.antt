use Rattle.go_stmts_scopes.proofs.Derivations.{shaped_brackets}
use Rattle.go_stmts_scopes.proofs.Typed.{typing_runs}
use Rattle.go_stmts_scopes.proofs.laws.derived_expressions_are_expressions.Goals as goal

pub returns : goal.returns
returns c = λ k s h t g e. typing_runs s h t e (shaped_brackets k t g)
