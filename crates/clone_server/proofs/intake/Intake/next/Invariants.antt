use Rattle.std.proofs.Common.{◌≡◌, ◌-◌, List, ℕ, Some}
use Rattle.clone_script.specs.Script.{most_script}
use Rattle.clone_server.specs.Taking.{consumed}
use Rattle.clone_server.proofs.Comings.{Came}
use Rattle.clone_server.proofs.intake.Intake.next.Given as goal

abbrev pub invariant-loop-step : goal.invariant-loop-step
invariant-loop-step g l = record {
  count : g.S.Source.faults l.script ≡ g.S.Source.faults l.fn.script;
  consumed : consumed l.self ≡ consumed l.fn.self;
  told : (left : List ℕ) → g.S.Source.left l.fn.script ≡ Some left → Came l.fn.self left l.self (g.S.Source.left l.script);
}

abbrev pub decreases-loop-step : goal.decreases-loop-step
decreases-loop-step g l = most_script - l.self.count
