use Rattle.go_exprs_rules.proofs.ShiftExamples.{shift_examples_hold}
use Rattle.go_exprs_rules.proofs.laws.shifts.Goals as goal

pub returns : goal.returns
returns c = shift_examples_hold
