use Rattle.go_stmts_elsewhere.proofs.Ends.{functions_end, returns_end}
use Rattle.go_stmts_elsewhere.proofs.laws.functions_end.Goals as goal

pub returns : goal.returns
returns c = record { terminating = functions_end; returning = returns_end }
