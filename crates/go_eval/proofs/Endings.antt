-- What is said of a run by what is left of it.
use Rattle.std.proofs.Common.{◌≡◌, ℕ, List, sym, ap, ◌∙◌, Ok}
use Rattle.std.specs.Prelude.{Bool, true, false}
use Rattle.go_meaning.specs.Computations.{Outcome}
use Rattle.go_meaning.specs.Meaning.{Run, Ended, Panicked, Unfinished, run_of}
use Rattle.go_values.specs.Views.{panic_view}
use Rattle.go_values.specs.Worlds.{world_view}
use Rattle.go_eval_plans.specs.declared.exit.Exit.{Exit}
use Rattle.go_eval_plans.specs.declared.exit.Exit.TheVariants as exit
use Rattle.go_eval_plans.specs.declared.machine.Machine.{Machine}
use Rattle.go_eval_plans.specs.Machines.{IsLeft}
use Rattle.go_eval.specs.Ends.{IsRun}

abbrev pub is_memory : Exit → Bool
is_memory exit.Memory = true
is_memory e = false

abbrev pub run_left : Exit → List ℕ → Run
run_left (exit.Panic k) out = Panicked (panic_view k) out
run_left exit.Undecided out = Unfinished out
run_left e out = Ended out

module _ (m : Machine) (o : Outcome) (out : List ℕ) (e : out ≡ (world_view m.world).output) where
  pub left_is : (q : Exit) → is_memory q ≡ false → IsLeft q m o → run_of o ≡ run_left q out
  left_is (exit.Return vs) n h = ap run_of h ∙ ap Ended (sym e)
  left_is exit.Break n h = ap run_of h ∙ ap Ended (sym e)
  left_is exit.Continue n h = ap run_of h ∙ ap Ended (sym e)
  left_is exit.Fallthrough n h = ap run_of h ∙ ap Ended (sym e)
  left_is (exit.Panic k) n h = ap run_of h ∙ ap (λ (ys : List ℕ). Panicked (panic_view k) ys) (sym e)
  left_is exit.Undecided n h = ap run_of h ∙ ap Unfinished (sym e)
  left_is exit.Memory n h = absurd cc

  pub ended_is : (u : Unit {0}) → IsRun {X = Unit {0}} (Ok u) m o → run_of o ≡ Ended out
  ended_is u h = ap run_of h.1 ∙ ap Ended (sym e)
