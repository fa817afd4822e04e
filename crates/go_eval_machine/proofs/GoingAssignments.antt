-- Steps that a machine takes at once.
use Rattle.std.proofs.Common.{◌≡◌, ℕ, List, [], length, refl, sym, ap, ◌∙◌, subst, arith, Result, Ok, Err}
use Rattle.std.specs.Prelude.{Vec}
use Rattle.std.specs.declared.alloc.Global.{Global}
use Rattle.go_typed.specs.Packages.{PackageView}
use Rattle.go_meaning.specs.Values as meant
use Rattle.go_meaning.specs.Computations as meaning
use Rattle.go_meaning.specs.Computations.{Comp, Outcome, World, Ending, Undecided, go_on, then_do}
use Rattle.go_meaning.specs.Operations.{Operation, operate, perform}
use Rattle.go_values.specs.Views.{views, panic_view}
use Rattle.go_values.specs.Worlds.{world_view}
use Rattle.go_eval_plans.specs.declared.exit.Exit.{Exit}
use Rattle.go_eval_plans.specs.declared.exit.Exit.TheVariants as exit
use Rattle.go_eval_plans.specs.declared.machine.Machine.{Machine}
use Rattle.go_eval_plans.specs.Machines.{outcome, ends, values_view}
use Rattle.go_eval_machine.specs.declared.task.Task.{Task}
use Rattle.go_eval_machine.specs.declared.engine.Engine.{Engine}
use Rattle.go_eval_machine.specs.Rests.{Rest, go_by, before, behind, then_rest}
use Rattle.go_eval_machine.specs.Tasks.{rest, AreFit}
use Rattle.go_eval_machine.specs.Engines.{in_state, IsNext, Work, Went, Goes, IsKept}
use Rattle.go_eval_machine.specs.Written.{IsWritten}
use Rattle.go_eval_machine.proofs.Rests.{Same, nothing_more}
use Rattle.go_eval_machine.proofs.Going.{goes_on, goes_given}
use Rattle.go_eval_machine.proofs.Performing.{operation_does, operation_traps}
use Rattle.go_eval_machine.specs.Tests.{IsTest}

module _ (p : PackageView) (c : Work) (C : ℕ → Comp) (old new : Engine) (ws : List meant.Value) (et : new.tasks ≡ old.tasks) (ed : new.depth ≡ old.depth) (v : views new.values.items ≡ ws) (tu : new.machine.turns ≡ old.machine.turns)
    (e : (n : ℕ) (s : Rest) → Same (c n s (views old.values.items)) (then_rest (C n) s ws)) where
  -- behind an ending
  ended : (how : Ending) (n : ℕ) → outcome (C n) old.depth old.machine ≡ ends how new.machine →
      in_state (c n (rest p n old.tasks.items) (views old.values.items)) old ≡ in_state (behind (rest p n new.tasks.items) (views new.values.items) (views new.values.items) how) new
  unfolding before
  ended how n h = e n (rest p n old.tasks.items) old.depth (views old.machine.frame.items) (world_view old.machine.world) old.machine.turns
      ∙ (ap (λ (o : Outcome). go_by o (λ e1 f1 w1 t1. behind (rest p n old.tasks.items) ws ws e1 old.depth f1 w1 t1)) h
      ∙ (ap (λ (us : List meant.Value). behind (rest p n old.tasks.items) us us how old.depth (views new.machine.frame.items) (world_view new.machine.world) new.machine.turns) (sym v)
      ∙ (ap (λ (d : ℕ). behind (rest p n old.tasks.items) (views new.values.items) (views new.values.items) how d (views new.machine.frame.items) (world_view new.machine.world) new.machine.turns) (sym ed)
      ∙ ap (λ (ts : Vec Task Global). in_state (behind (rest p n ts.items) (views new.values.items) (views new.values.items) how) new) (sym et))))

  undecided_so : (n : ℕ) (o : List ℕ) → outcome (C n) old.depth old.machine ≡ Undecided o → in_state (c n (rest p n old.tasks.items) (views old.values.items)) old ≡ Undecided o
  unfolding before
  undecided_so n o h = e n (rest p n old.tasks.items) old.depth (views old.machine.frame.items) (world_view old.machine.world) old.machine.turns
      ∙ ap (λ (o1 : Outcome). go_by o1 (λ e1 f1 w1 t1. behind (rest p n old.tasks.items) ws ws e1 old.depth f1 w1 t1)) h

  went_so : (r : Result (Unit {0}) Exit) → ((n : ℕ) → IsNext p n r new (in_state (c n (rest p n old.tasks.items) (views old.values.items)) old)) → Went p c old r new
  went_so r h = record {
    fits = subst (λ (ts : Vec Task Global). AreFit (length p.types.shapes) old.tasks.items → AreFit (length p.types.shapes) ts.items) (sym et) (λ a. a);
    turns = omega (arith, tu);
    next = λ n le. h n;
  }

  -- the machine carried the computation out, and its operands were dropped
  pub goes_written : (r : Result (Unit {0}) Exit) → ((n : ℕ) → IsWritten (outcome (C n) old.depth old.machine) r new.machine) → Goes p c old r new
  goes_written (Ok x) h = went_so (Ok x) (λ n. ended (meaning.Next []) n (h n) ∙ ap (λ (us : List meant.Value). in_state ((rest p n new.tasks.items).go us) new) (nothing_more (views new.values.items)))
  goes_written (Err (exit.Return us)) h = went_so (Err (exit.Return us)) (λ n. ended (meaning.Return (values_view us)) n (h n))
  goes_written (Err exit.Break) h = went_so (Err exit.Break) (λ n. ended meaning.Break n (h n))
  goes_written (Err exit.Continue) h = went_so (Err exit.Continue) (λ n. ended meaning.Continue n (h n))
  goes_written (Err exit.Fallthrough) h = went_so (Err exit.Fallthrough) (λ n. ended meaning.Fallthrough n (h n))
  goes_written (Err (exit.Panic k)) h = went_so (Err (exit.Panic k)) (λ n. ended (meaning.Panics (panic_view k)) n (h n))
  goes_written (Err exit.Undecided) h = went_so (Err exit.Undecided) (λ n. undecided_so n (world_view new.machine.world).output (h n))
  goes_written (Err exit.Memory) h = tt

-- the same, where the operands were taken before, and then dropped
pub goes_stored : (p : PackageView) (c : Work) (C : ℕ → Comp) (old m1 new : Engine) (M : Machine) (ws : List meant.Value) (r : Result (Unit {0}) Exit) → IsKept old m1 → IsKept (record m1 { machine = M }) new → views new.values.items ≡ ws → M.turns ≡ m1.machine.turns →
    ((n : ℕ) → IsWritten (outcome (C n) old.depth m1.machine) r M) → ((n : ℕ) (s : Rest) → Same (c n s (views old.values.items)) (then_rest (C n) s ws)) → Goes p c old r new
goes_stored p c C old m1 new M ws r h g v t w e = goes_written p c C old new ws (g.tasks ∙ h.tasks) (g.depth ∙ h.depth) v (ap (λ (k : Machine). k.turns) g.machine ∙ (t ∙ ap (λ (k : Machine). k.turns) h.machine)) e r
    (λ n. subst (λ (k : Machine). IsWritten (outcome (C n) old.depth old.machine) r k) (sym g.machine) (subst (λ (k : Machine). IsWritten (outcome (C n) old.depth k) r M) h.machine (w n)))

-- a computation is behind, in a state in which only the machine and the values are others
pub goes_behind : (p : PackageView) (c c1 : Work) (C L : ℕ → Comp) (old m1 m2 : Engine) (M : Machine) (ws : List meant.Value) (r : Result (Unit {0}) Exit) (new : Engine) → IsKept old m1 → IsKept (record m1 { machine = M }) m2 → views m2.values.items ≡ ws → M.turns ≡ m1.machine.turns →
    ((n : ℕ) → outcome (C n) old.depth m1.machine ≡ ends (meaning.Next []) M) → ((n : ℕ) (s : Rest) → Same (c n s (views old.values.items)) (then_rest (then_do (C n) (λ no. L n)) s ws)) →
    ((n : ℕ) (s : Rest) → Same (c1 n s ws) (then_rest (L n) s ws)) → Goes p c1 m2 r new → Goes p c old r new
unfolding before then_do
goes_behind p c c1 C L old m1 m2 M ws r new h g v t done e e1 next =
    let tasks : m2.tasks ≡ old.tasks = g.tasks ∙ h.tasks in
    let depth : m2.depth ≡ old.depth = g.depth ∙ h.depth in
    let turns : m2.machine.turns ≡ old.machine.turns = ap (λ (k : Machine). k.turns) g.machine ∙ (t ∙ ap (λ (k : Machine). k.turns) h.machine) in
    goes_on p c c1 old m2 r new next (subst (λ (ts : Vec Task Global). AreFit (length p.types.shapes) old.tasks.items → AreFit (length p.types.shapes) ts.items) (sym tasks) (λ a. a)) (omega (arith, turns))
    (λ n le. e n (rest p n old.tasks.items) old.depth (views old.machine.frame.items) (world_view old.machine.world) old.machine.turns
    ∙ (ap (λ (k : Machine). then_rest (then_do (C n) (λ no. L n)) (rest p n old.tasks.items) ws old.depth (views k.frame.items) (world_view k.world) k.turns) (sym h.machine)
    ∙ (ap (λ (o : Outcome). go_by (go_on o (λ vs f1 w1 t1. L n old.depth f1 w1 t1)) (λ e2 f1 w1 t1. behind (rest p n old.tasks.items) ws ws e2 old.depth f1 w1 t1)) (done n)
    ∙ (sym (e1 n (rest p n old.tasks.items) old.depth (views M.frame.items) (world_view M.world) M.turns)
    ∙ (ap (λ (k : Machine). c1 n (rest p n old.tasks.items) ws old.depth (views k.frame.items) (world_view k.world) k.turns) (sym g.machine)
    ∙ (ap (λ (d : ℕ). in_state (λ d1. c1 n (rest p n old.tasks.items) ws d) m2) (sym depth)
    ∙ (ap (λ (us : List meant.Value). in_state (c1 n (rest p n old.tasks.items) us) m2) (sym v)
    ∙ ap (λ (ts : Vec Task Global). in_state (c1 n (rest p n ts.items) (views m2.values.items)) m2) (sym tasks))))))))

pub kept_itself : (m : Engine) → IsKept m m
kept_itself m = record { tasks = refl; machine = refl; depth = refl }

pub kept_on : (a b c : Engine) → IsKept a b → IsKept b c → IsKept a c
kept_on a b c h g = record { tasks = g.tasks ∙ h.tasks; machine = g.machine ∙ h.machine; depth = g.depth ∙ h.depth }

module _ (p : PackageView) (c : Work) (m : Engine) where
  -- nothing is done
  pub goes_nothing : ((n : ℕ) (s : Rest) → Same (c n s (views m.values.items)) (s.go (views m.values.items))) → Goes {X = Unit {0}} p c m (Ok tt) m
  goes_nothing e = goes_given p c m m tt (views m.values.items) (kept_itself m) refl e

  -- an operation that passes or panics
  module _ (o : Operation) (us : List meant.Value) (e : (n : ℕ) (s : Rest) → Same (c n s (views m.values.items)) (then_rest (operate o us) s (views m.values.items))) where
    pub goes_tested : (r : Result (Unit {0}) Exit) → IsTest r (perform o us) → Goes p c m r m
    goes_tested (Ok x) h = goes_given p c m m x (views m.values.items) (kept_itself m) refl (λ n s d f w t. e n s d f w t ∙ operation_does s (views m.values.items) d f w t o us w (h w))
    goes_tested (Err (exit.Panic k)) h = record {
      fits = λ a. a;
      turns = omega arith;
      next = λ n le. e n (rest p n m.tasks.items) m.depth (views m.machine.frame.items) (world_view m.machine.world) m.machine.turns
          ∙ operation_traps (rest p n m.tasks.items) (views m.values.items) m.depth (views m.machine.frame.items) (world_view m.machine.world) m.machine.turns o us (panic_view k) (h (world_view m.machine.world));
    }
    goes_tested (Err (exit.Return vs)) h = absurd h
    goes_tested (Err exit.Break) h = absurd h
    goes_tested (Err exit.Continue) h = absurd h
    goes_tested (Err exit.Fallthrough) h = absurd h
    goes_tested (Err exit.Undecided) h = absurd h
    goes_tested (Err exit.Memory) h = absurd h
