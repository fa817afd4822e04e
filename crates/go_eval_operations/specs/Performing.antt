-- What is said of an operation that is carried out.
use Rattle.std.specs.Prelude.{◌≡◌, [], ◌∷◌, Option, Some, None, Result, Ok, Err}
use Rattle.go_meaning.specs.Computations.{World}
use Rattle.go_meaning.specs.Operations.{Deed, Gives, Traps}
use Rattle.go_values.specs.declared.value.Value.{Value}
use Rattle.go_values.specs.declared.panic.Stop.{Stop}
use Rattle.go_values.specs.declared.panic.Stop.TheVariants as stop
use Rattle.go_values.specs.Views.{view, panic_view}

-- The deed gives the value, or nothing, in the world that is left, or it panics; where it isn't done the world is as it was.
abbrev pub IsPerformed : Result (Option Value) Stop → Deed → World → World → Type 0
IsPerformed (Ok None) d old new = d ≡ Gives [] new
IsPerformed (Ok (Some v)) d old new = d ≡ Gives (view v ∷ []) new
IsPerformed (Err (stop.Panic p)) d old new = (d ≡ Traps (panic_view p)) × (new ≡ old)
IsPerformed (Err stop.Memory) d old new = new ≡ old
