use Rattle.go_stmts_callees.proofs.Functions.{placed_free}
use Rattle.go_stmts_callees.proofs.laws.placed_expressions_call_no_constant.Goals as goal

pub returns : goal.returns
returns g count ls r s h c t w f o l b e = placed_free count ls r s h c t w f o l b e
