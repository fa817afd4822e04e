use Rattle.go_stmts_final_types.proofs.Expressions.{typing_known}
use Rattle.go_stmts_final_types.proofs.Placed.{expression_known, scope_is}
use Rattle.go_stmts_final_types.proofs.laws.placed_expressions_are_known.Goals as goal

pub returns : goal.returns
returns c = λ count ls r s h k t w f o l b e. (typing_known r s h k t w (expression_known count ls r s h t (scope_is count ls s f o l) b) e).0
