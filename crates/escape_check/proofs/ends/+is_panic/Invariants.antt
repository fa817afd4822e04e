use Rattle.go_typed.specs.Funcs.{size}
use Rattle.go_typed.specs.Views.{view}
use Rattle.escape_check.proofs.ends.+is_panic.Given as goal

abbrev pub decreases-is_panic : goal.decreases-is_panic
decreases-is_panic l = size (view l.node.now)
