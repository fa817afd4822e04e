use Rattle.go_rewriting.proofs.Mild.{clause_run, block_run}
use Rattle.go_rewriting.proofs.laws.statements_stand_in_both.Goals as goal

pub returns : goal.returns
returns c = record { clause = clause_run; block = block_run }
