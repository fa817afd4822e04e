use Rattle.std.proofs.Common.{◌≡◌, drop}
use Rattle.go_exprs_rules.specs.Literals.{has_keys}
use Rattle.go_exprs_calls.specs.Shown.{shown}
use Rattle.go_exprs_calls.proofs.elements.has_keys.Given as goal

abbrev pub invariant-loop-node : goal.invariant-loop-node
invariant-loop-node l = has_keys (shown l.types (drop l.node-index l.nodes)) ≡ has_keys (shown l.types l.nodes)
