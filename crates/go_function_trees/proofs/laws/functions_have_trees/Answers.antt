use Rattle.go_function_trees.proofs.Trees.{has-tree}
use Rattle.go_function_trees.proofs.laws.functions_have_trees.Goals as goal

pub returns : goal.returns
returns l p h small = λ n f e. has-tree (λ fs a u. l.functions_are_numbered_in_order.ensures fs a u) (λ ts c t s path u v. l.subtrees_stand.ensures ts c t s path u v) (λ ts c b t u. l.derivations_are_shaped.ensures.based ts c b t u) p h small n f e
