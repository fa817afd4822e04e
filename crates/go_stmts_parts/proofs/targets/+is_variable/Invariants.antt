use Rattle.go_typed.specs.Funcs.{size}
use Rattle.go_typed.specs.Views.{view}
use Rattle.go_stmts_parts.proofs.targets.+is_variable.Given as goal

abbrev pub decreases-is_variable : goal.decreases-is_variable
decreases-is_variable l = size (view l.node.now)
