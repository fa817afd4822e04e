use Rattle.go_rewriting.proofs.Excerpts.{excerpt}
use Rattle.go_rewriting.proofs.laws.excerpts_stand.Goals as goal

pub returns : goal.returns
returns c = λ p h. excerpt p.file p.text h.before p.inner h.behind p.tokens p.comments p.from p.upto h.lexes h.whole h.range
