use Rattle.go_typed.specs.Funcs.{sizes}
use Rattle.go_typed.specs.Views.{views}
use Rattle.go_eval_plans.proofs.targets.+reach.Given as goal

abbrev pub decreases-reach : goal.decreases-reach
decreases-reach l = sizes (views l.parts.now)
