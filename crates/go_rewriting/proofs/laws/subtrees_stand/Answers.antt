use Rattle.go_rewriting.proofs.Subtrees.{subtree_of}
use Rattle.go_rewriting.proofs.laws.subtrees_stand.Goals as goal

pub returns : goal.returns
returns c = λ ts d t s path h e. subtree_of ts path t d s h e
