-- Which function is called.
use Rattle.std.specs.Prelude.{◌≡◌, ℕ, List, Result, Ok, Err}
use Rattle.go_meaning.specs.Values as meant
use Rattle.go_meaning.specs.Values.{nth}
use Rattle.go_meaning.specs.Computations.{Comp, end_by, Panics, NilCall}
use Rattle.go_meaning.specs.Doings.{applied}
use Rattle.go_values.specs.declared.panic.Panic.TheVariants as panic
use Rattle.go_eval_plans.specs.declared.exit.Exit.{Exit}
use Rattle.go_eval_plans.specs.declared.exit.Exit.TheVariants as exit

-- the function of this number, or a nil function
abbrev pub IsCallee : List meant.Value → Result ℕ Exit → Type 0
IsCallee vs (Ok g) = nth vs 0 ≡ meant.Function g
IsCallee vs (Err e) = (e ≡ exit.Panic panic.NilCall) × ((call : ℕ → List meant.Value → Comp) (us : List meant.Value) → applied call (nth vs 0) us ≡ end_by (Panics NilCall))
