use Rattle.go_typed.specs.Funcs.{size}
use Rattle.go_typed.specs.Views.{view}
use Rattle.go_stmts_parts.proofs.calls.+bare.Given as goal

abbrev pub decreases-bare : goal.decreases-bare
decreases-bare l = size (view l.node.now)
