use Rattle.go_exprs_variables.proofs.Quiet.{typing_silent}
use Rattle.go_exprs_variables.proofs.Stills.{constant_calls}
use Rattle.go_typed.specs.Trees.{sort_of}
use Rattle.go_exprs_rules.specs.Typing.{typing}
use Rattle.go_exprs_variables.proofs.laws.constants_are_quiet.Goals as goal

pub returns : goal.returns
returns c s h d x e m = typing_silent s h d x e (constant_calls s.rights (sort_of (typing s h x)) m)
