use Rattle.go_typed.specs.Funcs.{size}
use Rattle.go_typed.specs.Views.{view}
use Rattle.go_eval_machine.proofs.find.+test.Given as goal

abbrev pub decreases-test : goal.decreases-test
decreases-test l = size (view l.node.now)
