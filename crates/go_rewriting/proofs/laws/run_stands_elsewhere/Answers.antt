use Rattle.go_rewriting.proofs.Mild.{run_elsewhere}
use Rattle.go_rewriting.proofs.laws.run_stands_elsewhere.Goals as goal

pub returns : goal.returns
returns c = run_elsewhere
