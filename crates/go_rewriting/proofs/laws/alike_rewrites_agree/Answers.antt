use Rattle.go_rewriting.proofs.Settled.{alike_rewrites}
use Rattle.go_rewriting.proofs.laws.alike_rewrites_agree.Goals as goal

pub returns : goal.returns
returns c = alike_rewrites
