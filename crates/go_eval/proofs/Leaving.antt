-- What ways out through tasks come to.
use Rattle.std.proofs.Common.{◌≡◌, ℕ, List, [], ◌∷◌, take, length, refl, sym, ap, ◌∙◌, subst, arith, ◌≢◌, Result, Ok, Err}
use Rattle.std.specs.Prelude.{Bool, true, false, Box, Vec}
use Rattle.std.specs.declared.alloc.Global.{Global}
use Rattle.go_typed.specs.declared.node.TypedNode.{TypedNode}
use Rattle.go_typed.specs.Packages.{PackageView}
use Rattle.go_meaning.specs.Values as meant
use Rattle.go_meaning.specs.Computations as meaning
use Rattle.go_meaning.specs.Computations.{Undecided, undecided}
use Rattle.go_values.specs.declared.value.Value.{Value}
use Rattle.go_values.specs.Views.{views, panic_view}
use Rattle.go_values.specs.Worlds.{world_view}
use Rattle.go_eval_plans.specs.declared.exit.Exit.{Exit}
use Rattle.go_eval_plans.specs.declared.exit.Exit.TheVariants as exit
use Rattle.go_eval_plans.specs.declared.machine.Machine.{Machine}
use Rattle.go_eval_plans.specs.Machines.{values_view}
use Rattle.go_eval_machine.specs.declared.task.Task.{Task}
use Rattle.go_eval_machine.specs.declared.engine.Engine.{Engine}
use Rattle.go_eval_machine.specs.Rests.{Rest}
use Rattle.go_eval_machine.specs.Tasks.{rest, task_rest, AreFit}
use Rattle.go_eval_machine.specs.Engines.{in_state, IsNext, Work, Went, Goes, IsKept, works, asks, seeks, falls}
use Rattle.go_eval_machine.specs.declared.task.Iteration.{Iteration}
use Rattle.go_eval_machine.specs.declared.task.What.{What}
use Rattle.go_eval_machine.specs.declared.task.What.TheVariants as what
use Rattle.go_eval_machine.proofs.Public.{kept_state, Same}
use Rattle.go_eval.specs.Outs.{out_by, outs}

-- Nothing is done but that values are dropped, and the way goes on out.
module _ (p : PackageView) (c : Work) (old m : Engine) (vs : List meant.Value) (h : IsKept old m) (v : views m.values.items ≡ vs) where
  went_out : (r : Result (Unit {0}) Exit) → ((n : ℕ) → IsNext p n r m (in_state (c n (rest p n old.tasks.items) (views old.values.items)) old)) → Went p c old r m
  went_out r next = record {
    fits = subst (λ (ts : Vec Task Global). AreFit (length p.types.shapes) old.tasks.items → AreFit (length p.types.shapes) ts.items) (sym h.tasks) (λ a. a);
    turns = (let t : m.machine.turns ≡ old.machine.turns = ap (λ (k : Machine). k.turns) h.machine in omega (arith, t));
    next = λ n le. next n;
  }

  module _ (e : Exit) (q : (n : ℕ) (s : Rest) → Same (c n s (views old.values.items)) (out_by e s vs)) where
    out_state : (n : ℕ) → in_state (c n (rest p n old.tasks.items) (views old.values.items)) old ≡ in_state (out_by e (rest p n m.tasks.items) (views m.values.items)) m
    out_state n = q n (rest p n old.tasks.items) old.depth (views old.machine.frame.items) (world_view old.machine.world) old.machine.turns ∙ sym (kept_state p (λ n1 s us. out_by e s us) n old m vs h v)

  pub goes_out : (e : Exit) → ((n : ℕ) (s : Rest) → Same (c n s (views old.values.items)) (out_by e s vs)) → Goes {X = Unit {0}} p c old (Err e) m
  unfolding undecided
  goes_out (exit.Return us) q = went_out (Err (exit.Return us)) (out_state (exit.Return us) q)
  goes_out exit.Break q = went_out (Err exit.Break) (out_state exit.Break q)
  goes_out exit.Continue q = went_out (Err exit.Continue) (out_state exit.Continue q)
  goes_out exit.Fallthrough q = went_out (Err exit.Fallthrough) (out_state exit.Fallthrough q)
  goes_out (exit.Panic k) q = went_out (Err (exit.Panic k)) (out_state (exit.Panic k) q)
  goes_out exit.Undecided q = went_out (Err exit.Undecided) (out_state exit.Undecided q)
  goes_out exit.Memory q = tt

-- ---- the tasks

module _ (p : PackageView) (n : ℕ) (x : TypedNode) (b : ℕ) (r : Rest) (vs : List meant.Value) where
  pub value_asked : Same (works p x b what.Value n r vs) (asks p x n r vs)
  unfolding task_rest
  value_asked d f w t = refl

  pub place_sought : Same (works p x b what.Find n r vs) (seeks p x n r vs)
  unfolding task_rest
  place_sought d f w t = refl

  pub clause_left : (next : ℕ) → Same (works p x b (what.Fall next) n r vs) (r.go (take b vs))
  unfolding task_rest
  clause_left next d f w t = refl

  pub items_round : (g : Box Iteration Global) → Same (works p x b (what.ItemRound g) n r vs) (works p x b (what.Item g) n r vs)
  unfolding task_rest
  items_round g d f w t = refl

  -- the way out of a loop's block, of a clause, and of all other tasks but bodies
  pub block_continues : Same (outs p x b what.Round exit.Continue n r vs) (works p x b what.Round n r vs)
  unfolding task_rest
  block_continues d f w t = refl

  pub block_breaks : Same (outs p x b what.Round exit.Break n r vs) (r.go (take b vs))
  unfolding task_rest
  block_breaks d f w t = refl

  pub items_continue : (g : Box Iteration Global) → Same (outs p x b (what.ItemRound g) exit.Continue n r vs) (works p x b (what.Item g) n r vs)
  unfolding task_rest
  items_continue g d f w t = refl

  pub items_break : (g : Box Iteration Global) → Same (outs p x b (what.ItemRound g) exit.Break n r vs) (r.go (take b vs))
  unfolding task_rest
  items_break g d f w t = refl

  pub clause_falls : (next : ℕ) → Same (outs p x b (what.Fall next) exit.Fallthrough n r vs) (falls p x b next n r vs)
  unfolding task_rest
  clause_falls next d f w t = refl

  pub clause_breaks : (next : ℕ) → Same (outs p x b (what.Fall next) exit.Break n r vs) (r.go (take b vs))
  unfolding task_rest
  clause_breaks next d f w t = refl

-- whether a task lets an ending through as it is
abbrev pub lets_block : Exit → Bool
lets_block exit.Continue = false
lets_block exit.Break = false
lets_block e = true

abbrev pub lets_clause : Exit → Bool
lets_clause exit.Fallthrough = false
lets_clause exit.Break = false
lets_clause e = true

module _ (p : PackageView) (n : ℕ) (x : TypedNode) (b : ℕ) (r : Rest) (vs : List meant.Value) where
  pub block_lets : (e : Exit) → lets_block e ≡ true → Same (outs p x b what.Round e n r vs) (out_by e r (take b vs))
  unfolding task_rest
  block_lets (exit.Return us) q d f w t = refl
  block_lets exit.Break q d f w t = absurd cc
  block_lets exit.Continue q d f w t = absurd cc
  block_lets exit.Fallthrough q d f w t = refl
  block_lets (exit.Panic k) q d f w t = refl
  block_lets exit.Undecided q d f w t = refl
  block_lets exit.Memory q d f w t = refl

  pub items_let : (g : Box Iteration Global) (e : Exit) → lets_block e ≡ true → Same (outs p x b (what.ItemRound g) e n r vs) (out_by e r (take b vs))
  unfolding task_rest
  items_let g (exit.Return us) q d f w t = refl
  items_let g exit.Break q d f w t = absurd cc
  items_let g exit.Continue q d f w t = absurd cc
  items_let g exit.Fallthrough q d f w t = refl
  items_let g (exit.Panic k) q d f w t = refl
  items_let g exit.Undecided q d f w t = refl
  items_let g exit.Memory q d f w t = refl

  pub clause_lets : (next : ℕ) (e : Exit) → lets_clause e ≡ true → Same (outs p x b (what.Fall next) e n r vs) (out_by e r (take b vs))
  unfolding task_rest
  clause_lets next (exit.Return us) q d f w t = refl
  clause_lets next exit.Break q d f w t = absurd cc
  clause_lets next exit.Continue q d f w t = refl
  clause_lets next exit.Fallthrough q d f w t = absurd cc
  clause_lets next (exit.Panic k) q d f w t = refl
  clause_lets next exit.Undecided q d f w t = refl
  clause_lets next exit.Memory q d f w t = refl

-- ---- all other tasks drop their values

abbrev pub drops : What → Bool
drops what.Value = false
drops what.Find = false
drops what.Round = false
drops (what.ItemRound g) = false
drops (what.Fall next) = false
drops (what.Leave frame) = false
drops w = true

module _ (p : PackageView) (n : ℕ) (x : TypedNode) (b : ℕ) (r : Rest) (vs : List meant.Value) where
  task_out : (w : What) → drops w ≡ true → (e : meaning.Ending) → Same ((task_rest p n x b w r).out vs e) (r.out (take b vs) e)
  unfolding task_rest
  task_out what.Value q = absurd cc
  task_out what.Find q = absurd cc
  task_out what.Round q = absurd cc
  task_out (what.ItemRound g) q = absurd cc
  task_out (what.Fall next) q = absurd cc
  task_out (what.Leave frame) q = absurd cc
  task_out _ q = λ e d f w t. refl

  pub others_let : (w : What) (e : Exit) → drops w ≡ true → Same (outs p x b w e n r vs) (out_by e r (take b vs))
  others_let w (exit.Return us) q = task_out w q (meaning.Return (values_view us))
  others_let w exit.Break q = task_out w q meaning.Break
  others_let w exit.Continue q = task_out w q meaning.Continue
  others_let w exit.Fallthrough q = task_out w q meaning.Fallthrough
  others_let w (exit.Panic k) q = task_out w q (meaning.Panics (panic_view k))
  others_let w exit.Undecided q = λ d f u t. refl
  others_let w exit.Memory q = λ d f u t. refl

  -- a node that is asked drops nothing
  pub value_lets : (e : Exit) → Same (outs p x b what.Value e n r vs) (out_by e r vs)
  unfolding task_rest
  value_lets (exit.Return us) d f w t = refl
  value_lets exit.Break d f w t = refl
  value_lets exit.Continue d f w t = refl
  value_lets exit.Fallthrough d f w t = refl
  value_lets (exit.Panic k) d f w t = refl
  value_lets exit.Undecided d f w t = refl
  value_lets exit.Memory d f w t = refl

  pub place_lets : (e : Exit) → Same (outs p x b what.Find e n r vs) (out_by e r vs)
  unfolding task_rest
  place_lets (exit.Return us) d f w t = refl
  place_lets exit.Break d f w t = refl
  place_lets exit.Continue d f w t = refl
  place_lets exit.Fallthrough d f w t = refl
  place_lets (exit.Panic k) d f w t = refl
  place_lets exit.Undecided d f w t = refl
  place_lets exit.Memory d f w t = refl

-- ---- what is none of these

pub lets_block_by : (e : Exit) → e ≢ exit.Break → e ≢ exit.Continue → lets_block e ≡ true
lets_block_by (exit.Return us) h g = refl
lets_block_by exit.Break h g = absurd (h refl)
lets_block_by exit.Continue h g = absurd (g refl)
lets_block_by exit.Fallthrough h g = refl
lets_block_by (exit.Panic k) h g = refl
lets_block_by exit.Undecided h g = refl
lets_block_by exit.Memory h g = refl

pub lets_clause_by : (e : Exit) → e ≢ exit.Break → e ≢ exit.Fallthrough → lets_clause e ≡ true
lets_clause_by (exit.Return us) h g = refl
lets_clause_by exit.Break h g = absurd (h refl)
lets_clause_by exit.Continue h g = refl
lets_clause_by exit.Fallthrough h g = absurd (g refl)
lets_clause_by (exit.Panic k) h g = refl
lets_clause_by exit.Undecided h g = refl
lets_clause_by exit.Memory h g = refl

pub drops_by : (w : What) → w ≢ what.Value → w ≢ what.Find → ((k : ℕ) → w ≢ what.Fall k) → w ≢ what.Round → ((g : Box Iteration Global) → w ≢ what.ItemRound g) → ((frame : Vec Value Global) → w ≢ what.Leave frame) → drops w ≡ true
drops_by what.Value h1 h2 h3 h4 h5 h6 = absurd (h1 refl)
drops_by what.Find h1 h2 h3 h4 h5 h6 = absurd (h2 refl)
drops_by (what.Fall k) h1 h2 h3 h4 h5 h6 = absurd (h3 k refl)
drops_by what.Round h1 h2 h3 h4 h5 h6 = absurd (h4 refl)
drops_by (what.ItemRound g) h1 h2 h3 h4 h5 h6 = absurd (h5 g refl)
drops_by (what.Leave frame) h1 h2 h3 h4 h5 h6 = absurd (h6 frame refl)
drops_by _ h1 h2 h3 h4 h5 h6 = refl
