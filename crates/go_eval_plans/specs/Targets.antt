-- Where the values of places lie.
use Rattle.std.specs.Prelude.{◌≡◌, ℕ, List, [], ◌∷◌, Option, Some, None, Result, Ok, Err}
use Rattle.go_meaning.specs.Values as meant
use Rattle.go_meaning.specs.Computations.{Comp, give, read, write}
use Rattle.go_meaning.specs.Operations.{Cell, SetCell, ReadVariable, WriteVariable, operate}
use Rattle.go_meaning.specs.Doings.{Doing}
use Rattle.go_values.specs.declared.panic.Panic.TheVariants as panic
use Rattle.go_values.specs.Inner.{inner_at, with_inner}
use Rattle.go_values.specs.Views.{view}
use Rattle.go_eval_plans.specs.declared.exit.Exit.{Exit}
use Rattle.go_eval_plans.specs.declared.exit.Exit.TheVariants as exit
use Rattle.go_eval_plans.specs.declared.machine.Machine.{Machine}
use Rattle.go_eval_plans.specs.declared.targets.Root.{Root}
use Rattle.go_eval_plans.specs.declared.targets.Root.TheVariants as root
use Rattle.go_eval_plans.specs.declared.targets.Target.{Target}
use Rattle.go_eval_plans.specs.Machines.{outcome, IsLeft, Reads}

-- the place that an index tells, or the panic
abbrev pub IsIndex : Option ℕ → Result ℕ Exit → Type 0
IsIndex place (Ok k) = place ≡ Some k
IsIndex place (Err e) = (place ≡ None) × (e ≡ exit.Panic panic.Index)

-- the value of a root, and another one
abbrev pub root_read : Root → Comp
root_read (root.Local k) = read k
root_read (root.Variable k) = operate (ReadVariable k) []
root_read (root.Cell slice index) = operate Cell (view slice ∷ view index ∷ [])
root_read root.Nothing = give []

abbrev pub root_written : Root → meant.Value → Comp
root_written (root.Local k) v = write k v
root_written (root.Variable k) v = operate (WriteVariable k) (v ∷ [])
root_written (root.Cell slice index) v = operate SetCell (view slice ∷ view index ∷ v ∷ [])
root_written root.Nothing v = give []

-- The value of the place is the part of the root, in this state: both are read, and an assignment to the place is one to the root,
-- of its value with another part there.
pub record Reached (x : Doing) (us : List meant.Value) (depth : ℕ) (m : Machine) (t : Target) : Type 0 where
  pub whole : meant.Value
  pub root : Reads (root_read t.root) depth m whole
  pub load : Reads (x.load us) depth m (inner_at t.path.items whole)
  pub store : (v : meant.Value) → outcome (x.store us v) depth m ≡ outcome (root_written t.root (with_inner t.path.items whole v)) depth m

-- Where it isn't found, the place isn't read either.
abbrev pub IsReached : Doing → List meant.Value → ℕ → Machine → Result Target Exit → Type 0
IsReached x us depth m (Ok t) = Reached x us depth m t
IsReached x us depth m (Err e) = IsLeft e m (outcome (x.load us) depth m)
