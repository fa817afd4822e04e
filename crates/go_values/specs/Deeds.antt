-- What is said of an operation that answers a value, nothing, or why it isn't done.
use Rattle.std.specs.Prelude.{[], ◌∷◌, ◌≡◌, Result, Ok, Err, ℕ}
use Rattle.go_meaning.specs.Computations.{World}
use Rattle.go_meaning.specs.Operations.{Deed, Gives, Traps}
use Rattle.go_values.specs.declared.value.Value.{Value}
use Rattle.go_values.specs.declared.panic.Panic.{Panic}
use Rattle.go_values.specs.declared.panic.Stop.{Stop}
use Rattle.go_values.specs.declared.panic.Stop.TheVariants as stop
use Rattle.go_values.specs.Views.{view, panic_view}

-- the deed gives this one value in the world w, or panics
abbrev pub deed : World → Result Value Panic → Deed
deed w (Ok v) = Gives (view v ∷ []) w
deed w (Err p) = Traps (panic_view p)

-- the same, where memory may be wanting
abbrev pub IsDone : Result Value Stop → World → Deed → Type 0
IsDone (Ok v) w d = d ≡ Gives (view v ∷ []) w
IsDone (Err (stop.Panic p)) w d = d ≡ Traps (panic_view p)
IsDone (Err stop.Memory) w d = Unit {0}

-- what a place that was found is used for
abbrev pub at_place : Result ℕ Panic → (ℕ → Deed) → Deed
at_place (Ok k) then = then k
at_place (Err p) then = Traps (panic_view p)

-- Nothing is given, in another world; where it isn't done the world is as it was.
abbrev pub IsStored : {X : Type 0} → Result X Stop → Deed → World → World → Type 0
IsStored (Ok x) d old new = d ≡ Gives [] new
IsStored (Err (stop.Panic p)) d old new = (d ≡ Traps (panic_view p)) × (new ≡ old)
IsStored (Err stop.Memory) d old new = new ≡ old
