use Rattle.go_typed.specs.Funcs.{sizes}
use Rattle.go_typed.specs.Views.{views}
use Rattle.go_eval_plans.proofs.places.+load.Given as goal

abbrev pub decreases-load : goal.decreases-load
decreases-load l = sizes (views l.parts.now)
