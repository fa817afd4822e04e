use Rattle.go_typed.specs.Funcs.{size}
use Rattle.go_typed.specs.Views.{view}
use Rattle.escape_check.proofs.ends.+is_panic_call.Given as goal

abbrev pub decreases-is_panic_call : goal.decreases-is_panic_call
decreases-is_panic_call l = size (view l.node.now)
