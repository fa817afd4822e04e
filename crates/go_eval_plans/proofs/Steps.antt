-- What a machine does by computations that are made of others.
use Rattle.std.proofs.Common.{◌≡◌, ℕ, List, sym, ap, subst, Result}
use Rattle.go_meaning.specs.Values as meant
use Rattle.go_meaning.specs.Computations.{World, Outcome, Comp, go_on}
use Rattle.go_eval_plans.specs.declared.exit.Values.{Values}
use Rattle.go_eval_plans.specs.declared.exit.Exit.{Exit}
use Rattle.go_eval_plans.specs.declared.exit.Exit.TheVariants as exit
use Rattle.go_eval_plans.specs.declared.machine.Machine.{Machine}
use Rattle.go_eval_plans.specs.Machines.{outcome, IsLeft, IsOutcome, Runs}

-- another computation, in another state, that comes to the same
pub shift : (c c' : Comp) (d d' : ℕ) (m m1 m2 : Machine) (r : Result Values Exit) → outcome c d m ≡ outcome c' d' m1 → Runs c' d' m1 r m2 → Runs c d m r m2
shift c c' d d' m m1 m2 r e h = record { is = subst (IsOutcome r m2) (sym e) h.is }

pub on_left : (e : Exit) (m : Machine) (o : Outcome) (k : List meant.Value → List meant.Value → World → ℕ → Outcome) → IsLeft e m o → IsLeft e m (go_on o k)
on_left (exit.Return vs) m o k h = ap (λ (x : Outcome). go_on x k) h
on_left exit.Break m o k h = ap (λ (x : Outcome). go_on x k) h
on_left exit.Continue m o k h = ap (λ (x : Outcome). go_on x k) h
on_left exit.Fallthrough m o k h = ap (λ (x : Outcome). go_on x k) h
on_left (exit.Panic p) m o k h = ap (λ (x : Outcome). go_on x k) h
on_left exit.Undecided m o k h = ap (λ (x : Outcome). go_on x k) h
on_left exit.Memory m o k h = tt
