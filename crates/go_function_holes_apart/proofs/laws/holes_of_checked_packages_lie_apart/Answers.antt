use Rattle.go_typed.specs.Contents.{content}
use Rattle.go_function_holes_apart.proofs.laws.holes_of_checked_packages_lie_apart.Goals as goal

pub returns : goal.returns
returns g p h n w f r e t = g.holes_of_windows_lie_apart.ensures (content p) w f r (g.functions_have_trees.ensures p h n w.func f e) t
