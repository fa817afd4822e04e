use Rattle.go_typed.specs.Contents.{content}
use Rattle.go_function_trees.proofs.Windows.{window-stands}
use Rattle.go_function_trees.proofs.laws.windows_stand.Goals as goal

pub returns : goal.returns
returns l p h small = λ w f r e g. window-stands (content p) w f r (l.functions_have_trees.ensures p h small w.func f e) g
