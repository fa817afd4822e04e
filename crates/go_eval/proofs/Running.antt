-- What trees and calls come to that are run alone.
use Rattle.std.proofs.Common.{◌≡◌, ◌<◌, ◌≤◌, ℕ, suc, List, [], length, sym, ap, ◌∙◌, subst, arith, Option, Result, Ok, Err}
use Rattle.std.specs.Prelude.{true, false, slice_get}
use Rattle.std.specs.Option.{option_map}
use Rattle.go_typed.specs.declared.node.TypedNode.{TypedNode}
use Rattle.go_typed.specs.Funcs.{FuncView}
use Rattle.go_typed.specs.Packages.{PackageView}
use Rattle.go_typed.specs.Views.{seen}
use Rattle.go_meaning.specs.Values as meant
use Rattle.go_meaning.specs.Computations.{Comp, Outcome, World}
use Rattle.go_meaning.specs.Meaning.{bounded, called}
use Rattle.go_meaning.proofs.Public.{bound_does_not_show}
use Rattle.go_values.specs.declared.value.Value.{Value}
use Rattle.go_values.specs.Views.{views}
use Rattle.go_values.specs.Worlds.{world_view}
use Rattle.go_eval_plans.specs.declared.exit.Exit.{Exit}
use Rattle.go_eval_plans.specs.declared.exit.Exit.TheVariants as exit
use Rattle.go_eval_plans.specs.declared.machine.Machine.{Machine}
use Rattle.go_eval_plans.specs.Machines.{outcome}
use Rattle.go_eval_plans.specs.Programs.{code_of, program_of, calls, doing}
use Rattle.go_eval_machine.specs.declared.task.Task.{Task}
use Rattle.go_eval_machine.specs.declared.task.What.TheVariants as what
use Rattle.go_eval_machine.specs.declared.engine.Engine.{Engine}
use Rattle.go_eval_machine.specs.Rests.{Rest, finish}
use Rattle.go_eval_machine.specs.Tasks.{rest, task_rest, AreFit}
use Rattle.go_eval_machine.specs.Engines.{in_state, IsNext, Goes, IsPushed}
use Rattle.go_eval_machine.proofs.Public.{pushed_state}
use Rattle.go_eval.specs.Called.{calls_it}
use Rattle.go_eval.specs.Ends.{wants_memory, Done, IsDone, RanOn, IsRan}
use Rattle.go_eval.proofs.Carrying.{nothing_left, went_of}
use Rattle.go_eval.specs.Runs.{depth, tree_run, main_run}

-- ---- what was done is what was run

module _ (c : ℕ → Machine → Outcome) (old : Machine) (r : Result (Unit {0}) Exit) (new : Machine) where
  pub ran_wanting : wants_memory r ≡ true → IsRan c old r new
  ran_wanting e = by_cases r e
    where
      by_cases : (s : Result (Unit {0}) Exit) → wants_memory s ≡ true → IsRan c old s new
      by_cases (Err exit.Memory) e = tt
      by_cases (Ok x) e = absurd cc
      by_cases (Err (exit.Return vs)) e = absurd cc
      by_cases (Err exit.Break) e = absurd cc
      by_cases (Err exit.Continue) e = absurd cc
      by_cases (Err exit.Fallthrough) e = absurd cc
      by_cases (Err (exit.Panic k)) e = absurd cc
      by_cases (Err exit.Undecided) e = absurd cc

module _ (p : PackageView) (c : ℕ → Machine → Outcome) (old : Machine) (answer : Result (Unit {0}) Exit) (m new : Engine) (le : m.machine.turns ≤ old.turns) (h : (n : ℕ) → old.turns < n → IsNext p n answer m (c n old)) where
  done_on : (r : Result (Unit {0}) Exit) → Done p m answer r new → RanOn c old r new.machine
  done_on r d = record { turns = omega (arith, d.turns, le); is = λ n lt. d.is n (c n old) (omega (arith, lt, le)) (h n lt) }

  pub done_ran : (r : Result (Unit {0}) Exit) → IsDone p m answer r new → IsRan c old r new.machine
  done_ran (Ok x) d = done_on (Ok x) d
  done_ran (Err (exit.Return vs)) d = done_on (Err (exit.Return vs)) d
  done_ran (Err exit.Break) d = done_on (Err exit.Break) d
  done_ran (Err exit.Continue) d = done_on (Err exit.Continue) d
  done_ran (Err exit.Fallthrough) d = done_on (Err exit.Fallthrough) d
  done_ran (Err (exit.Panic k)) d = done_on (Err (exit.Panic k)) d
  done_ran (Err exit.Undecided) d = done_on (Err exit.Undecided) d
  done_ran (Err exit.Memory) d = tt

-- ---- a machine with nothing to do

-- it has no tasks and no values, and its state is that one
pub record Rested (old : Machine) (m : Engine) : Type 0 where
  pub tasks : m.tasks.items ≡ []
  pub values : m.values.items ≡ []
  pub machine : m.machine ≡ old
  pub depth : m.depth ≡ depth

module _ (p : PackageView) (old : Machine) (m : Engine) (z : Rested old m) where
  rested_turns : m.machine.turns ≡ old.turns
  rested_turns = ap (λ (k : Machine). k.turns) z.machine

  -- what is done there
  rested_state : (n : ℕ) (k : Rest → List meant.Value → Comp) → in_state (k (rest p n m.tasks.items) (views m.values.items)) m ≡ outcome (k finish []) depth old
  rested_state n k =
      ap (λ (ts : List Task). in_state (k (rest p n ts) (views m.values.items)) m) z.tasks
      ∙ (ap (λ (vs : List Value). in_state (k finish (views vs)) m) z.values
      ∙ (ap (λ (d : ℕ). k finish [] d (views m.machine.frame.items) (world_view m.machine.world) m.machine.turns) z.depth
      ∙ ap (λ (q : Machine). outcome (k finish []) depth q) z.machine))

  pub rested_fits : (k : ℕ) → AreFit k m.tasks.items
  rested_fits k = subst (AreFit k) (sym z.tasks) tt

  -- ---- a tree

  module _ (x : TypedNode) where
    tree_alone : (n d : ℕ) (f : List meant.Value) (w : World) (t : ℕ) → t < n → bounded (program_of p 0) n (seen p.types x) d f w t ≡ (task_rest p n x 0 what.Value finish).go [] d f w t
    unfolding doing calls program_of task_rest
    tree_alone n d f w t lt =
        bound_does_not_show (program_of p 0) n (suc n) (seen p.types x) d f w t lt (omega (arith, lt))
        ∙ sym (nothing_left (doing p n x).value d f w t)

    pub tree_ran : (m1 new : Engine) (r : Result (Unit {0}) Exit) → IsPushed x 0 what.Value m m1 → IsDone p m1 (Ok tt) r new → IsRan (tree_run p x) old r new.machine
    tree_ran m1 new r h d =
        let turns : m1.machine.turns ≡ m.machine.turns = ap (λ (k : Machine). k.turns) h.machine in
        done_ran p (tree_run p x) old (Ok tt) m1 new (omega (arith, turns, rested_turns))
        (λ n lt. tree_alone n depth (views old.frame.items) (world_view old.world) old.turns lt
        ∙ sym (pushed_state p (λ n1 s vs. s.go vs) n x 0 what.Value m m1 h ∙ rested_state n (λ s vs. (task_rest p n x 0 what.Value s).go vs))) r d

  -- ---- the call of a function

  module _ (main : ℕ) (F : Option FuncView) (eF : slice_get p.functions main ≡ F) (us : List meant.Value) (eu : us ≡ []) where
    call_alone : (n : ℕ) → in_state (calls_it p F us n (rest p n m.tasks.items) (views m.values.items)) m ≡ main_run p main n old
    call_alone n =
        rested_state n (λ s vs. calls_it p F us n s vs)
        ∙ (nothing_left (called (bounded (program_of p 0) n) us (option_map (code_of p.types) F)) depth (views old.frame.items) (world_view old.world) old.turns
        ∙ (ap (λ (ws : List meant.Value). outcome (called (bounded (program_of p 0) n) ws (option_map (code_of p.types) F)) depth old) eu
        ∙ ap (λ (o : Option FuncView). outcome (called (bounded (program_of p 0) n) [] (option_map (code_of p.types) o)) depth old) (sym eF)))

    pub main_fits : (r : Result (Unit {0}) Exit) (m1 : Engine) → Goes p (calls_it p F us) m r m1 → wants_memory r ≡ false → AreFit (length p.types.shapes) m1.tasks.items
    main_fits r m1 g e = (went_of p (calls_it p F us) m r m1 g e).fits (rested_fits (length p.types.shapes))

    pub main_ran : (r s : Result (Unit {0}) Exit) (m1 new : Engine) → Goes p (calls_it p F us) m r m1 → wants_memory r ≡ false → IsDone p m1 r s new → IsRan (main_run p main) old s new.machine
    main_ran r s m1 new g e d =
        let w = went_of p (calls_it p F us) m r m1 g e in
        done_ran p (main_run p main) old r m1 new (omega (arith, w.turns, rested_turns))
        (λ n lt. subst (IsNext p n r m1) (call_alone n) (w.next n (omega (arith, lt, rested_turns)))) s d
