use Rattle.std.proofs.Common.{◌≡◌, ◌-◌, ◌++◌}
use Rattle.go_typed.specs.Windows.{uses_from}
use Rattle.go_typed.proofs.walk.push_uses.Given as goal

abbrev pub invariant-loop-token : goal.invariant-loop-token
invariant-loop-token l = l.uses.items ++ uses_from l.func.tokens l.token (l.to - l.token) ≡ l.initial.uses.items ++ uses_from l.func.tokens l.from (l.to - l.from)
