-- How the loop over tasks ends.
use Rattle.std.specs.Prelude.{◌≡◌, ◌<◌, ◌≤◌, ℕ, Bool, true, false, List, Result, Ok, Err}
use Rattle.go_typed.specs.declared.node.TypedNode.{TypedNode}
use Rattle.go_typed.specs.Packages.{PackageView}
use Rattle.go_meaning.specs.Values as meant
use Rattle.go_meaning.specs.Computations as meaning
use Rattle.go_meaning.specs.Computations.{Outcome}
use Rattle.go_values.specs.Views.{views}
use Rattle.go_eval_plans.specs.declared.exit.Exit.{Exit}
use Rattle.go_eval_plans.specs.declared.exit.Exit.TheVariants as exit
use Rattle.go_eval_plans.specs.declared.machine.Machine.{Machine}
use Rattle.go_eval_plans.specs.Machines.{ends, IsLeft}
use Rattle.go_eval_machine.specs.declared.task.What.{What}
use Rattle.go_eval_machine.specs.declared.engine.Engine.{Engine}
use Rattle.go_eval_machine.specs.Engines.{IsNext, Work, works}
use Rattle.go_eval.specs.Outs.{outs}

abbrev pub wants_memory : {X : Type 0} → Result X Exit → Bool
wants_memory (Err exit.Memory) = true
wants_memory r = false

-- a task, or the way out through it
abbrev pub goes_by : {X : Type 0} → PackageView → TypedNode → ℕ → What → Result X Exit → Work
goes_by p x b w (Ok u) = works p x b w
goes_by p x b w (Err e) = outs p x b w e

-- The outcome is that there is nothing more to do, with some values, or that it is left so; where memory is wanting nothing is
-- meant.
abbrev pub IsRun : {X : Type 0} → Result X Exit → Machine → Outcome → Type 0
IsRun (Ok x) m o = (us : List meant.Value) × (o ≡ ends (meaning.Next us) m)
IsRun (Err e) m o = IsLeft e m o

-- What was left of the tasks behind an answer is done, under each bound above the turns.
pub record Done {X : Type 0} (p : PackageView) (old : Engine) (answer r : Result X Exit) (new : Engine) : Type 0 where
  pub turns : new.machine.turns ≤ old.machine.turns
  pub is : (n : ℕ) (o : Outcome) → old.machine.turns < n → IsNext p n answer old o → IsRun r new.machine o

abbrev pub IsDone : {X : Type 0} → PackageView → Engine → Result X Exit → Result X Exit → Engine → Type 0
IsDone p old answer (Err exit.Memory) new = Unit {0}
IsDone p old answer r new = Done p old answer r new

-- The machine ran a computation; where memory is wanting nothing is meant.
pub record RanOn {X : Type 0} (c : ℕ → Machine → Outcome) (old : Machine) (r : Result X Exit) (new : Machine) : Type 0 where
  pub turns : new.turns ≤ old.turns
  pub is : (n : ℕ) → old.turns < n → IsRun r new (c n old)

abbrev pub IsRan : {X : Type 0} → (ℕ → Machine → Outcome) → Machine → Result X Exit → Machine → Type 0
IsRan c old (Err exit.Memory) new = Unit {0}
IsRan c old r new = RanOn c old r new
