use Rattle.go_rewriting.proofs.Settled.{shallow_rewrites}
use Rattle.go_rewriting.proofs.laws.rewrites_keep_a_depth.Goals as goal

pub returns : goal.returns
returns c = shallow_rewrites
