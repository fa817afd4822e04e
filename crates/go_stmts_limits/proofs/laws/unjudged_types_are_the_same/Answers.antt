use Rattle.go_stmts_limits.proofs.Unjudged.{typing_unjudged}
use Rattle.go_stmts_limits.proofs.laws.unjudged_types_are_the_same.Goals as goal

pub returns : goal.returns
returns c s h t e z = typing_unjudged s h t e z
