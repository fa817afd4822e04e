use Rattle.go_rewriting.proofs.Changes.{change_stays}
use Rattle.go_rewriting.proofs.laws.unchanged_tokens_stay.Goals as goal

pub returns : goal.returns
returns c = λ ts xs n h out. change_stays ts xs 0 n h out
