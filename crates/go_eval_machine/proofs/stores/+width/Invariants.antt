use Rattle.go_typed.specs.Funcs.{sizes}
use Rattle.go_typed.specs.Views.{views}
use Rattle.go_eval_machine.proofs.stores.+width.Given as goal

abbrev pub decreases-width : goal.decreases-width
decreases-width l = sizes (views l.parts.now)
