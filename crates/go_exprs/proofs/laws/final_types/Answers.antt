use Rattle.go_exprs.proofs.Final.{final_types}
use Rattle.go_exprs.proofs.laws.final_types.Goals as goal

pub returns : goal.returns
returns c = final_types
