use Rattle.go_rewriting.proofs.Changes.{change_stands}
use Rattle.go_rewriting.proofs.laws.new_words_stand.Goals as goal

pub returns : goal.returns
returns c = λ ts xs n x h e. change_stands ts xs 0 n x h e
