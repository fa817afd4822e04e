use Rattle.go_rewriting.proofs.Subtrees.{run_in}
use Rattle.go_rewriting.proofs.laws.items_stand.Goals as goal

pub returns : goal.returns
returns c = λ ts d t f n list h. run_in ts f n t d list h
