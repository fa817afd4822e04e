-- What the ends of bodies come to.
use Rattle.std.proofs.Common.{◌≡◌, ℕ, suc, List, [], ◌∷◌, ◌++◌, take, drop, length, refl, sym, ap, ◌∙◌, subst, arith, Ok, Err, Result}
use Rattle.std.specs.Prelude.{Vec}
use Rattle.std.specs.declared.alloc.Global.{Global}
use Rattle.go_typed.specs.Packages.{PackageView}
use Rattle.go_meaning.specs.Values as meant
use Rattle.go_meaning.specs.Computations.{Comp, World, Panics, Undecided, undecided}
use Rattle.go_values.specs.declared.value.Value.{Value}
use Rattle.go_values.specs.declared.panic.Panic.{Panic}
use Rattle.go_values.specs.Views.{views, panic_view}
use Rattle.go_typed.specs.declared.node.TypedNode.{TypedNode}
use Rattle.go_eval_plans.specs.declared.exit.Values.{Values}
use Rattle.go_eval_plans.specs.Machines.{values_view}
use Rattle.go_eval_plans.specs.declared.exit.Exit.TheVariants as exit
use Rattle.go_eval_machine.specs.declared.task.What.TheVariants as what
use Rattle.go_values.specs.Worlds.{world_view}
use Rattle.go_eval_plans.specs.declared.exit.Exit.{Exit}
use Rattle.go_eval_plans.specs.declared.machine.Machine.{Machine}
use Rattle.go_eval_machine.specs.declared.task.Task.{Task}
use Rattle.go_eval_machine.specs.declared.engine.Engine.{Engine}
use Rattle.go_eval_machine.specs.Rests.{Rest}
use Rattle.go_eval_machine.specs.Tasks.{rest, task_rest, AreFit}
use Rattle.go_eval_machine.specs.Engines.{in_state, Work, Goes, works}
use Rattle.go_eval_machine.proofs.Public.{kept_state}
use Rattle.go_eval.specs.Outs.{LeftBody, IsLeftBody, outs}

module _ (p : PackageView) (b : ℕ) (frame : Vec Value Global) (old m : Engine) (h : LeftBody b frame old m) where
  -- what is done in the caller's frame
  pub body_state : (c : Work) (n : ℕ) → c n (rest p n old.tasks.items) (take b (views old.values.items)) (suc old.depth) (views frame.items) (world_view old.machine.world) old.machine.turns ≡ in_state (c n (rest p n m.tasks.items) (views m.values.items)) m
  body_state c n =
      ap (λ (k : Machine). c n (rest p n old.tasks.items) (take b (views old.values.items)) (suc old.depth) (views k.frame.items) (world_view k.world) k.turns) (sym h.machine)
      ∙ (ap (λ (d : ℕ). c n (rest p n old.tasks.items) (take b (views old.values.items)) d (views m.machine.frame.items) (world_view m.machine.world) m.machine.turns) (sym h.depth)
      ∙ (ap (λ (us : List meant.Value). in_state (c n (rest p n old.tasks.items) us) m) (sym h.values)
      ∙ ap (λ (ts : Vec Task Global). in_state (c n (rest p n ts.items) (views m.values.items)) m) (sym h.tasks)))

  pub body_fits : AreFit (length p.types.shapes) old.tasks.items → AreFit (length p.types.shapes) m.tasks.items
  body_fits = subst (λ (ts : Vec Task Global). AreFit (length p.types.shapes) old.tasks.items → AreFit (length p.types.shapes) ts.items) (sym h.tasks) (λ a. a)

  pub body_turns : m.machine.turns ≡ old.machine.turns
  body_turns = ap (λ (k : Machine). k.turns) h.machine

  -- the end of a body
  module _ (c : Work) where
    pub goes_left_body : ((n : ℕ) (s : Rest) (d : ℕ) (f : List meant.Value) (w : World) (t : ℕ) → c n s (views old.values.items) d f w t ≡ s.go (take b (views old.values.items)) (suc d) (views frame.items) w t) → Goes {X = Unit {0}} p c old (Ok tt) m
    goes_left_body e = record {
      fits = body_fits;
      turns = omega (arith, body_turns);
      next = λ n le. e n (rest p n old.tasks.items) old.depth (views old.machine.frame.items) (world_view old.machine.world) old.machine.turns ∙ body_state (λ n1 s us. s.go us) n;
    }

    -- a panic goes on out
    pub goes_panicking : (k : Panic) → ((n : ℕ) (s : Rest) (d : ℕ) (f : List meant.Value) (w : World) (t : ℕ) → c n s (views old.values.items) d f w t ≡ s.out (take b (views old.values.items)) (Panics (panic_view k)) (suc d) (views frame.items) w t) →
        Goes {X = Unit {0}} p c old (Err (exit.Panic k)) m
    goes_panicking k e = record {
      fits = body_fits;
      turns = omega (arith, body_turns);
      next = λ n le. e n (rest p n old.tasks.items) old.depth (views old.machine.frame.items) (world_view old.machine.world) old.machine.turns ∙ body_state (λ n1 s us. s.out us (Panics (panic_view k))) n;
    }

    -- with results
    pub goes_returned : (new : Engine) (us : List meant.Value) → new.tasks ≡ m.tasks → new.machine ≡ m.machine → new.depth ≡ m.depth → views new.values.items ≡ views m.values.items ++ us →
        ((n : ℕ) (s : Rest) (d : ℕ) (f : List meant.Value) (w : World) (t : ℕ) → c n s (views old.values.items) d f w t ≡ s.go (take b (views old.values.items) ++ us) (suc d) (views frame.items) w t) → Goes {X = Unit {0}} p c old (Ok tt) new
    goes_returned new us et em ed ev e = record {
      fits = λ a. subst (λ (ts : Vec Task Global). AreFit (length p.types.shapes) ts.items) (sym et) (body_fits a);
      turns = (let t : new.machine.turns ≡ m.machine.turns = ap (λ (k : Machine). k.turns) em in omega (arith, t, body_turns));
      next = λ n le. e n (rest p n old.tasks.items) old.depth (views old.machine.frame.items) (world_view old.machine.world) old.machine.turns
          ∙ (body_state (λ n1 s ws. s.go (ws ++ us)) n
          ∙ sym (kept_state p (λ n1 s ws. s.go ws) n m new (views m.values.items ++ us) (record { tasks = et; machine = em; depth = ed }) ev));
    }

-- back in the caller, or without memory
pub left_body_or : (p : PackageView) (b : ℕ) (frame : Vec Value Global) (old m : Engine) (c : Work) (r : Result (Unit {0}) Exit) → IsLeftBody b frame old r m →
    ((n : ℕ) (s : Rest) (d : ℕ) (f : List meant.Value) (w : World) (t : ℕ) → c n s (views old.values.items) d f w t ≡ s.go (take b (views old.values.items)) (suc d) (views frame.items) w t) → Goes p c old r m
left_body_or p b frame old m c (Ok x) h e = goes_left_body p b frame old m h c e
left_body_or p b frame old m c (Err q) h e = subst (λ (q1 : Exit). Goes {X = Unit {0}} p c old (Err q1) m) (sym h) tt

-- ---- the task

module _ (p : PackageView) (n : ℕ) (x : TypedNode) (b : ℕ) (frame : Vec Value Global) (r : Rest) (vs : List meant.Value) (d : ℕ) (f : List meant.Value) (w : World) (t : ℕ) where
  pub leave_goes : works p x b (what.Leave frame) n r vs d f w t ≡ r.go (take b vs) (suc d) (views frame.items) w t
  unfolding task_rest
  leave_goes = refl

  pub break_leaves : outs p x b (what.Leave frame) exit.Break n r vs d f w t ≡ works p x b (what.Leave frame) n r vs d f w t
  unfolding task_rest
  break_leaves = refl

  pub continue_leaves : outs p x b (what.Leave frame) exit.Continue n r vs d f w t ≡ works p x b (what.Leave frame) n r vs d f w t
  unfolding task_rest
  continue_leaves = refl

  pub fall_leaves : outs p x b (what.Leave frame) exit.Fallthrough n r vs d f w t ≡ works p x b (what.Leave frame) n r vs d f w t
  unfolding task_rest
  fall_leaves = refl

  pub panic_leaves : (k : Panic) → outs p x b (what.Leave frame) (exit.Panic k) n r vs d f w t ≡ r.out (take b vs) (Panics (panic_view k)) (suc d) (views frame.items) w t
  unfolding task_rest
  panic_leaves k = refl

  pub return_leaves : (us : Values) → outs p x b (what.Leave frame) (exit.Return us) n r vs d f w t ≡ r.go (take b vs ++ values_view us) (suc d) (views frame.items) w t
  unfolding task_rest
  return_leaves us = refl

  pub undecided_leaves : outs p x b (what.Leave frame) exit.Undecided n r vs d f w t ≡ Undecided w.output
  unfolding undecided
  undecided_leaves = refl
