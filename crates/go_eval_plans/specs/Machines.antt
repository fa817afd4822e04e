-- What machines do: the computation that an evaluation carries out.
use Rattle.std.specs.Prelude.{◌≡◌, ℕ, suc, List, [], ◌∷◌, Result, Ok, Err}
use Rattle.go_meaning.specs.Values as meant
use Rattle.go_meaning.specs.Computations as meaning
use Rattle.go_meaning.specs.Computations.{Outcome, Ends, Undecided, Comp}
use Rattle.go_values.specs.declared.value.Value.{Value}
use Rattle.go_values.specs.declared.panic.Stop.{Stop}
use Rattle.go_values.specs.declared.panic.Stop.TheVariants as stop
use Rattle.go_values.specs.Views.{view, views, panic_view}
use Rattle.go_values.specs.Worlds.{world_view}
use Rattle.go_eval_plans.specs.declared.exit.Values.{Values}
use Rattle.go_eval_plans.specs.declared.exit.Values.TheVariants as values
use Rattle.go_eval_plans.specs.declared.exit.Exit.{Exit}
use Rattle.go_eval_plans.specs.declared.exit.Exit.TheVariants as exit
use Rattle.go_eval_plans.specs.declared.machine.Machine.{Machine}

abbrev pub values_view : Values → List meant.Value
values_view values.Nothing = []
values_view (values.One v) = view v ∷ []
values_view (values.Many vs) = views vs.items

abbrev pub IsExitOf : Stop → Exit → Type 0
IsExitOf (stop.Panic p) e = e ≡ exit.Panic p
IsExitOf stop.Memory e = e ≡ exit.Memory

-- ---- computations

-- the outcome in a state
abbrev pub outcome : Comp → ℕ → Machine → Outcome
outcome c depth m = c depth (views m.frame.items) (world_view m.world) m.turns

-- with this ending in a state
abbrev pub ends : meaning.Ending → Machine → Outcome
ends e m = Ends e (views m.frame.items) (world_view m.world) m.turns

-- what it means that there is nothing next; where memory is wanting nothing is meant
abbrev pub IsLeft : Exit → Machine → Outcome → Type 0
IsLeft (exit.Return vs) m o = o ≡ ends (meaning.Return (values_view vs)) m
IsLeft exit.Break m o = o ≡ ends meaning.Break m
IsLeft exit.Continue m o = o ≡ ends meaning.Continue m
IsLeft exit.Fallthrough m o = o ≡ ends meaning.Fallthrough m
IsLeft (exit.Panic p) m o = o ≡ ends (meaning.Panics (panic_view p)) m
IsLeft exit.Undecided m o = o ≡ Undecided (world_view m.world).output
IsLeft exit.Memory m o = Unit {0}

abbrev pub IsOutcome : Result Values Exit → Machine → Outcome → Type 0
IsOutcome (Ok vs) m o = o ≡ ends (meaning.Next (values_view vs)) m
IsOutcome (Err e) m o = IsLeft e m o

-- The computation from the one state gives the answer and the other state.
pub record Runs (c : Comp) (depth : ℕ) (old : Machine) (answer : Result Values Exit) (new : Machine) : Type 0 where
  pub is : IsOutcome answer new (outcome c depth old)

-- a turn is spent, where there is one
abbrev pub IsSpent : {X : Type 0} → Result X Exit → Machine → Machine → Type 0
IsSpent (Ok x) old new = (new.frame ≡ old.frame) × (new.world ≡ old.world) × (old.turns ≡ suc new.turns)
IsSpent (Err e) old new = (e ≡ exit.Undecided) × (new ≡ old) × (old.turns ≡ 0)

-- A value was read, and nothing changed: what the computation gives begins with it.
pub record Reads (c : Comp) (depth : ℕ) (old : Machine) (v : meant.Value) : Type 0 where
  pub all : List meant.Value
  pub is : outcome c depth old ≡ ends (meaning.Next all) old
  pub first : meant.nth all 0 ≡ v

abbrev pub IsRead : Comp → ℕ → Machine → Result Value Exit → Type 0
IsRead c depth m (Ok v) = Reads c depth m (view v)
IsRead c depth m (Err e) = IsLeft e m (outcome c depth m)
