use Rattle.go_rewriting.proofs.Settled.{clear_rewrites}
use Rattle.go_rewriting.proofs.laws.clear_rewrites_agree.Goals as goal

pub returns : goal.returns
returns c = clear_rewrites
