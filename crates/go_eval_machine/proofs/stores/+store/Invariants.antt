use Rattle.go_typed.specs.Funcs.{sizes}
use Rattle.go_typed.specs.Views.{views}
use Rattle.go_eval_machine.proofs.stores.+store.Given as goal

abbrev pub decreases-store : goal.decreases-store
decreases-store l = sizes (views l.parts.now)
