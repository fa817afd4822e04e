-- What is said of assignments.
use Rattle.std.specs.Prelude.{◌≡◌, [], Result, Ok, Err}
use Rattle.go_meaning.specs.Computations as meaning
use Rattle.go_meaning.specs.Computations.{Outcome}
use Rattle.go_eval_plans.specs.declared.exit.Exit.{Exit}
use Rattle.go_eval_plans.specs.declared.machine.Machine.{Machine}
use Rattle.go_eval_plans.specs.Machines.{ends, IsLeft}

-- A value was written, and nothing else is given; where none was written the run leaves the assignment in the new state.
abbrev pub IsWritten : {X : Type 0} → Outcome → Result X Exit → Machine → Type 0
IsWritten o (Ok x) new = o ≡ ends (meaning.Next []) new
IsWritten o (Err e) new = IsLeft e new o
