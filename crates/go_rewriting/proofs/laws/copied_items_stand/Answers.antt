use Rattle.go_rewriting.proofs.Copied.{copied_run}
use Rattle.go_rewriting.proofs.laws.copied_items_stand.Goals as goal

pub returns : goal.returns
returns c = λ p end e l new next h. copied_run p.file p.text p.tokens p.from p.upto end p.inner e l new next h.order h.free h.run h.plain
