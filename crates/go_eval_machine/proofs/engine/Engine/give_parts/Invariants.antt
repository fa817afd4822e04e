use Rattle.go_eval_machine.specs.Giving.{GaveParts}
use Rattle.go_eval_machine.proofs.engine.Engine.give_parts.Given as goal

abbrev pub invariant-loop-number : goal.invariant-loop-number
invariant-loop-number l = GaveParts l.node l.next l.end l.number l.fn.self l.self
