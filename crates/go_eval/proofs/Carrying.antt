-- What the loop over tasks keeps.
use Rattle.std.proofs.Common.{◌≡◌, ◌<◌, ◌≤◌, ℕ, List, [], ◌∷◌, ◌++◌, length, refl, sym, ap, ◌∙◌, subst, arith, Result, Ok, Err}
use Rattle.std.specs.Prelude.{false}
use Rattle.go_typed.specs.Packages.{PackageView}
use Rattle.go_meaning.specs.Values as meant
use Rattle.go_meaning.specs.Computations as meaning
use Rattle.go_meaning.specs.Computations.{Comp, Outcome, Ends, Undecided, World, undecided, end_by}
use Rattle.go_values.specs.Views.{views, panic_view}
use Rattle.go_values.specs.Worlds.{world_view}
use Rattle.go_eval_plans.specs.declared.exit.Exit.{Exit}
use Rattle.go_eval_plans.specs.declared.exit.Exit.TheVariants as exit
use Rattle.go_eval_plans.specs.declared.machine.Machine.{Machine}
use Rattle.go_eval_plans.specs.Machines.{values_view}
use Rattle.go_eval_machine.specs.declared.task.Task.{Task}
use Rattle.go_eval_machine.specs.declared.engine.Engine.{Engine}
use Rattle.go_eval_machine.specs.Rests.{Rest, finish, go_by, before, behind, then_rest}
use Rattle.go_eval_machine.specs.Tasks.{rest, task_rest, AreFit, IsFit}
use Rattle.go_eval_machine.specs.Engines.{in_state, IsNext, Work, Went, Goes}
use Rattle.go_eval_machine.proofs.Public.{one_on_top, fit_below}
use Rattle.go_eval.specs.Ends.{wants_memory, goes_by, IsRun, Done, IsDone}

-- a computation behind which nothing is left to do
finished : (d : ℕ) (o : Outcome) → go_by o (λ e f w t. behind finish [] [] e d f w t) ≡ o
unfolding end_by
finished d (Ends (meaning.Next us) f w t) = refl
finished d (Ends (meaning.Return us) f w t) = refl
finished d (Ends meaning.Break f w t) = refl
finished d (Ends meaning.Continue f w t) = refl
finished d (Ends meaning.Fallthrough f w t) = refl
finished d (Ends (meaning.Panics k) f w t) = refl
finished d (Undecided o) = refl

pub nothing_left : (c : Comp) (d : ℕ) (f : List meant.Value) (w : World) (t : ℕ) → then_rest c finish [] d f w t ≡ c d f w t
unfolding before
nothing_left c d f w t = finished d (c d f w t)

-- ---- one task more

module _ (p : PackageView) (n : ℕ) (m m1 : Engine) (t : Task) (et : m.tasks.items ≡ m1.tasks.items ++ t ∷ []) (ev : m1.values ≡ m.values) (em : m1.machine ≡ m.machine) (ed : m1.depth ≡ m.depth) where
  -- by what is left of the tasks
  one_less : (k : Rest → List meant.Value → Comp) → in_state (k (rest p n m.tasks.items) (views m.values.items)) m ≡ in_state (k (task_rest p n t.node.now t.base t.what (rest p n m1.tasks.items)) (views m1.values.items)) m1
  one_less k =
      ap (λ (s : Rest). in_state (k s (views m.values.items)) m) (one_on_top p n m1.tasks.items m.tasks.items t et)
      ∙ (ap (λ us. in_state (k (task_rest p n t.node.now t.base t.what (rest p n m1.tasks.items)) (views us.items)) m) (sym ev)
      ∙ (ap (λ (d : ℕ). k (task_rest p n t.node.now t.base t.what (rest p n m1.tasks.items)) (views m1.values.items) d (views m.machine.frame.items) (world_view m.machine.world) m.machine.turns) (sym ed)
      ∙ ap (λ (q : Machine). k (task_rest p n t.node.now t.base t.what (rest p n m1.tasks.items)) (views m1.values.items) m1.depth (views q.frame.items) (world_view q.world) q.turns) (sym em)))

  pub topped_next : (r : Result (Unit {0}) Exit) (o : Outcome) → wants_memory r ≡ false → IsNext p n r m o → o ≡ in_state (goes_by p t.node.now t.base t.what r n (rest p n m1.tasks.items) (views m1.values.items)) m1
  unfolding undecided
  topped_next (Ok x) o e h = h ∙ one_less (λ s us. s.go us)
  topped_next (Err (exit.Return vs)) o e h = h ∙ one_less (λ s us. s.out us (meaning.Return (values_view vs)))
  topped_next (Err exit.Break) o e h = h ∙ one_less (λ s us. s.out us meaning.Break)
  topped_next (Err exit.Continue) o e h = h ∙ one_less (λ s us. s.out us meaning.Continue)
  topped_next (Err exit.Fallthrough) o e h = h ∙ one_less (λ s us. s.out us meaning.Fallthrough)
  topped_next (Err (exit.Panic k)) o e h = h ∙ one_less (λ s us. s.out us (meaning.Panics (panic_view k)))
  topped_next (Err exit.Undecided) o e h = h ∙ ap (λ (q : Machine). Undecided (world_view q.world).output) (sym em)
  topped_next (Err exit.Memory) o e h = absurd cc

-- ---- the loop

-- what is left behind the answers so far
pub record Carries (p : PackageView) (old : Engine) (answer r : Result (Unit {0}) Exit) (new : Engine) : Type 0 where
  pub fits : AreFit (length p.types.shapes) new.tasks.items
  pub memory : wants_memory r ≡ false
  pub turns : new.machine.turns ≤ old.machine.turns
  pub next : (n : ℕ) (o : Outcome) → old.machine.turns < n → IsNext p n answer old o → IsNext p n r new o

pub carries_none : (p : PackageView) (old : Engine) (r : Result (Unit {0}) Exit) → AreFit (length p.types.shapes) old.tasks.items → wants_memory r ≡ false → Carries p old r r old
carries_none p old r f m = record { fits = f; memory = m; turns = omega arith; next = λ n o le h. h }

-- all steps but those that want memory went somewhere
pub went_of : (p : PackageView) (c : Work) (old : Engine) (r : Result (Unit {0}) Exit) (new : Engine) → Goes p c old r new → wants_memory r ≡ false → Went p c old r new
went_of p c old (Ok x) new h e = h
went_of p c old (Err (exit.Return vs)) new h e = h
went_of p c old (Err exit.Break) new h e = h
went_of p c old (Err exit.Continue) new h e = h
went_of p c old (Err exit.Fallthrough) new h e = h
went_of p c old (Err (exit.Panic k)) new h e = h
went_of p c old (Err exit.Undecided) new h e = h
went_of p c old (Err exit.Memory) new h e = absurd cc

module _ (p : PackageView) (old m m1 new : Engine) (answer r s : Result (Unit {0}) Exit) (t : Task) (et : m.tasks.items ≡ m1.tasks.items ++ t ∷ []) (ev : m1.values ≡ m.values) (em : m1.machine ≡ m.machine) (ed : m1.depth ≡ m.depth) (h : Carries p old answer r m) where
  pub task_fits : IsFit (length p.types.shapes) t.node.now t.what
  task_fits = (fit_below (length p.types.shapes) m1.tasks.items t (subst (AreFit (length p.types.shapes)) et h.fits)).0

  pub carries_on : Goes p (goes_by p t.node.now t.base t.what r) m1 s new → wants_memory s ≡ false → Carries p old answer s new
  carries_on g e =
      let w = went_of p (goes_by p t.node.now t.base t.what r) m1 s new g e in
      let turns : m1.machine.turns ≡ m.machine.turns = ap (λ (k : Machine). k.turns) em in
      record {
        fits = w.fits (fit_below (length p.types.shapes) m1.tasks.items t (subst (AreFit (length p.types.shapes)) et h.fits)).1;
        memory = e;
        turns = omega (arith, w.turns, turns, h.turns);
        next = λ n o le q. subst (IsNext p n s new) (sym (topped_next p n m m1 t et ev em ed r o h.memory (h.next n o le q))) (w.next n (omega (arith, le, turns, h.turns)));
      }

-- ---- the end

at_end : (p : PackageView) (n : ℕ) (m : Engine) → m.tasks.items ≡ [] → (k : Rest → List meant.Value → Comp) (o : Outcome) → o ≡ in_state (k (rest p n m.tasks.items) (views m.values.items)) m → o ≡ in_state (k finish (views m.values.items)) m
at_end p n m e k o h = h ∙ ap (λ (ts : List Task). in_state (k (rest p n ts) (views m.values.items)) m) e

pub next_is_run : (p : PackageView) (n : ℕ) (r : Result (Unit {0}) Exit) (m : Engine) (o : Outcome) → m.tasks.items ≡ [] → IsNext p n r m o → IsRun r m.machine o
unfolding end_by
next_is_run p n (Ok x) m o e h = (views m.values.items, at_end p n m e (λ s us. s.go us) o h)
next_is_run p n (Err (exit.Return vs)) m o e h = at_end p n m e (λ s us. s.out us (meaning.Return (values_view vs))) o h
next_is_run p n (Err exit.Break) m o e h = at_end p n m e (λ s us. s.out us meaning.Break) o h
next_is_run p n (Err exit.Continue) m o e h = at_end p n m e (λ s us. s.out us meaning.Continue) o h
next_is_run p n (Err exit.Fallthrough) m o e h = at_end p n m e (λ s us. s.out us meaning.Fallthrough) o h
next_is_run p n (Err (exit.Panic k)) m o e h = at_end p n m e (λ s us. s.out us (meaning.Panics (panic_view k))) o h
next_is_run p n (Err exit.Undecided) m o e h = h
next_is_run p n (Err exit.Memory) m o e h = tt

done_of : (p : PackageView) (old : Engine) (answer r : Result (Unit {0}) Exit) (new : Engine) → Done p old answer r new → IsDone p old answer r new
done_of p old answer (Ok x) new h = h
done_of p old answer (Err (exit.Return vs)) new h = h
done_of p old answer (Err exit.Break) new h = h
done_of p old answer (Err exit.Continue) new h = h
done_of p old answer (Err exit.Fallthrough) new h = h
done_of p old answer (Err (exit.Panic k)) new h = h
done_of p old answer (Err exit.Undecided) new h = h
done_of p old answer (Err exit.Memory) new h = tt

pub none_left : (ts : List Task) → length ts ≡ 0 → ts ≡ []
none_left [] e = refl
none_left (t ∷ ts) e = absurd (omega (arith, e))

-- no task is left
pub all_done : (p : PackageView) (old : Engine) (answer r : Result (Unit {0}) Exit) (m m1 : Engine) → m.tasks.items ≡ [] → m1.machine ≡ m.machine → Carries p old answer r m → IsDone p old answer r m1
all_done p old answer r m m1 e em h = done_of p old answer r m1 (record {
  turns = (let turns : m1.machine.turns ≡ m.machine.turns = ap (λ (k : Machine). k.turns) em in omega (arith, turns, h.turns));
  is = λ n o le q. subst (λ (k : Machine). IsRun r k o) (sym em) (next_is_run p n r m o e (h.next n o le q));
})
