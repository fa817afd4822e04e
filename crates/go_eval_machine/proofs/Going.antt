-- Steps that are made of others.
use Rattle.std.proofs.Common.{◌≡◌, ◌≤◌, ◌<◌, ℕ, suc, List, length, refl, sym, ap, ◌∙◌, subst, arith, Result, Ok, Err}
use Rattle.std.specs.Prelude.{Vec}
use Rattle.std.specs.declared.alloc.Global.{Global}
use Rattle.go_typed.specs.declared.node.TypedNode.{TypedNode}
use Rattle.go_typed.specs.Packages.{PackageView}
use Rattle.go_meaning.specs.Values as meant
use Rattle.go_meaning.specs.Computations.{World, Undecided, Return, Panics}
use Rattle.go_values.specs.declared.value.Value.{Value}
use Rattle.go_values.specs.declared.panic.Panic.{Panic}
use Rattle.go_values.specs.Views.{views, panic_view}
use Rattle.go_values.specs.Worlds.{world_view}
use Rattle.go_eval_plans.specs.declared.exit.Values.{Values}
use Rattle.go_eval_plans.specs.Machines.{values_view}
use Rattle.go_eval_plans.specs.declared.exit.Exit.{Exit}
use Rattle.go_eval_plans.specs.declared.exit.Exit.TheVariants as exit
use Rattle.go_eval_plans.specs.declared.machine.Machine.{Machine}
use Rattle.go_eval_machine.specs.declared.task.What.{What}
use Rattle.go_eval_machine.specs.declared.task.Task.{Task}
use Rattle.go_eval_machine.specs.declared.engine.Engine.{Engine}
use Rattle.go_eval_machine.specs.Rests.{Rest}
use Rattle.go_eval_machine.specs.Tasks.{rest, task_rest, IsFit, AreFit}
use Rattle.go_eval_machine.specs.Engines.{in_state, IsNext, Work, Went, Goes, IsPushed, IsKept}
use Rattle.go_eval_machine.proofs.Rests.{Same}

module _ (p : PackageView) where
  -- a task was put on top
  pub pushed_state : (c : Work) (n : ℕ) (x : TypedNode) (b : ℕ) (w : What) (old m : Engine) → IsPushed x b w old m →
      in_state (c n (rest p n m.tasks.items) (views m.values.items)) m ≡ in_state (c n (task_rest p n x b w (rest p n old.tasks.items)) (views old.values.items)) old
  pushed_state c n x b w old m h =
      ap (λ (s : Rest). in_state (c n s (views m.values.items)) m) (h.rest p n)
      ∙ (ap (λ (k : Vec Value Global). in_state (c n (task_rest p n x b w (rest p n old.tasks.items)) (views k.items)) m) h.values
      ∙ (ap (λ (d : ℕ). c n (task_rest p n x b w (rest p n old.tasks.items)) (views old.values.items) d (views m.machine.frame.items) (world_view m.machine.world) m.machine.turns) h.depth
      ∙ ap (λ (k : Machine). c n (task_rest p n x b w (rest p n old.tasks.items)) (views old.values.items) old.depth (views k.frame.items) (world_view k.world) k.turns) h.machine))

  -- only the values are others
  pub kept_state : (c : Work) (n : ℕ) (old m : Engine) (vs : List meant.Value) → IsKept old m → views m.values.items ≡ vs → in_state (c n (rest p n m.tasks.items) (views m.values.items)) m ≡ in_state (c n (rest p n old.tasks.items) vs) old
  kept_state c n old m vs h e =
      ap (λ (ts : Vec Task Global). in_state (c n (rest p n ts.items) (views m.values.items)) m) h.tasks
      ∙ (ap (λ (us : List meant.Value). in_state (c n (rest p n old.tasks.items) us) m) e
      ∙ (ap (λ (d : ℕ). c n (rest p n old.tasks.items) vs d (views m.machine.frame.items) (world_view m.machine.world) m.machine.turns) h.depth
      ∙ ap (λ (k : Machine). c n (rest p n old.tasks.items) vs old.depth (views k.frame.items) (world_view k.world) k.turns) h.machine))

  -- another world too
  pub worlded_state : (c : Work) (n : ℕ) (old m : Engine) (vs : List meant.Value) → IsKept old m → views m.values.items ≡ vs → (w : World) →
      c n (rest p n m.tasks.items) (views m.values.items) m.depth (views m.machine.frame.items) w m.machine.turns ≡ c n (rest p n old.tasks.items) vs old.depth (views old.machine.frame.items) w old.machine.turns
  worlded_state c n old m vs h e w =
      ap (λ (ts : Vec Task Global). c n (rest p n ts.items) (views m.values.items) m.depth (views m.machine.frame.items) w m.machine.turns) h.tasks
      ∙ (ap (λ (us : List meant.Value). c n (rest p n old.tasks.items) us m.depth (views m.machine.frame.items) w m.machine.turns) e
      ∙ (ap (λ (d : ℕ). c n (rest p n old.tasks.items) vs d (views m.machine.frame.items) w m.machine.turns) h.depth
      ∙ ap (λ (k : Machine). c n (rest p n old.tasks.items) vs old.depth (views k.frame.items) w k.turns) h.machine))

module _ {X : Type 0} (p : PackageView) where
  -- from a later state on
  went_on : (c c1 : Work) (old m : Engine) (r : Result X Exit) (new : Engine) → Went p c1 m r new → (AreFit (length p.types.shapes) old.tasks.items → AreFit (length p.types.shapes) m.tasks.items) → m.machine.turns ≤ old.machine.turns →
      ((n : ℕ) → old.machine.turns < n → in_state (c n (rest p n old.tasks.items) (views old.values.items)) old ≡ in_state (c1 n (rest p n m.tasks.items) (views m.values.items)) m) → Went p c old r new
  went_on c c1 old m r new g f t e = record {
    fits = λ a. g.fits (f a);
    turns = omega (arith, g.turns, t);
    next = λ n le. subst (IsNext p n r new) (sym (e n le)) (g.next n (omega (arith, le, t)));
  }

  pub goes_on : (c c1 : Work) (old m : Engine) (r : Result X Exit) (new : Engine) → Goes p c1 m r new → (AreFit (length p.types.shapes) old.tasks.items → AreFit (length p.types.shapes) m.tasks.items) → m.machine.turns ≤ old.machine.turns →
      ((n : ℕ) → old.machine.turns < n → in_state (c n (rest p n old.tasks.items) (views old.values.items)) old ≡ in_state (c1 n (rest p n m.tasks.items) (views m.values.items)) m) → Goes p c old r new
  goes_on c c1 old m (Ok x) new g f t e = went_on c c1 old m (Ok x) new g f t e
  goes_on c c1 old m (Err (exit.Return vs)) new g f t e = went_on c c1 old m (Err (exit.Return vs)) new g f t e
  goes_on c c1 old m (Err exit.Break) new g f t e = went_on c c1 old m (Err exit.Break) new g f t e
  goes_on c c1 old m (Err exit.Continue) new g f t e = went_on c c1 old m (Err exit.Continue) new g f t e
  goes_on c c1 old m (Err exit.Fallthrough) new g f t e = went_on c c1 old m (Err exit.Fallthrough) new g f t e
  goes_on c c1 old m (Err (exit.Panic k)) new g f t e = went_on c c1 old m (Err (exit.Panic k)) new g f t e
  goes_on c c1 old m (Err exit.Undecided) new g f t e = went_on c c1 old m (Err exit.Undecided) new g f t e
  goes_on c c1 old m (Err exit.Memory) new g f t e = tt

  -- the same work
  pub goes_same : (c c1 : Work) (old : Engine) (r : Result X Exit) (new : Engine) → Goes p c1 old r new → ((n : ℕ) (s : Rest) → Same (c n s (views old.values.items)) (c1 n s (views old.values.items))) → Goes p c old r new
  goes_same c c1 old r new g e = goes_on c c1 old old r new g (λ a. a) (omega arith) (λ n le. e n (rest p n old.tasks.items) old.depth (views old.machine.frame.items) (world_view old.machine.world) old.machine.turns)

  pub goes_pushed : (c c1 : Work) (x : TypedNode) (b : ℕ) (w : What) (old m : Engine) (r : Result X Exit) (new : Engine) → IsFit (length p.types.shapes) x w → IsPushed x b w old m → Goes p c1 m r new →
      ((n : ℕ) (s : Rest) → Same (c n s (views old.values.items)) (c1 n (task_rest p n x b w s) (views old.values.items))) → Goes p c old r new
  goes_pushed c c1 x b w old m r new k h g e = goes_on c c1 old m r new g (h.fits (length p.types.shapes) k)
      (let t : m.machine.turns ≡ old.machine.turns = ap (λ (k1 : Machine). k1.turns) h.machine in omega (arith, t))
      (λ n le. e n (rest p n old.tasks.items) old.depth (views old.machine.frame.items) (world_view old.machine.world) old.machine.turns ∙ sym (pushed_state p c1 n x b w old m h))

  -- and nothing else was done
  pub goes_laid : (c : Work) (x : TypedNode) (b : ℕ) (w : What) (old m : Engine) (u : X) → IsFit (length p.types.shapes) x w → IsPushed x b w old m →
      ((n : ℕ) (s : Rest) → Same (c n s (views old.values.items)) ((task_rest p n x b w s).go (views old.values.items))) → Goes p c old (Ok u) m
  goes_laid c x b w old m u k h e = record {
    fits = h.fits (length p.types.shapes) k;
    turns = (let t : m.machine.turns ≡ old.machine.turns = ap (λ (k1 : Machine). k1.turns) h.machine in omega (arith, t));
    next = λ n le. e n (rest p n old.tasks.items) old.depth (views old.machine.frame.items) (world_view old.machine.world) old.machine.turns ∙ sym (pushed_state p (λ n1 s vs. s.go vs) n x b w old m h);
  }

  pub goes_kept : (c c1 : Work) (old m : Engine) (r : Result X Exit) (new : Engine) (vs : List meant.Value) → IsKept old m → views m.values.items ≡ vs → Goes p c1 m r new →
      ((n : ℕ) (s : Rest) → Same (c n s (views old.values.items)) (c1 n s vs)) → Goes p c old r new
  goes_kept c c1 old m r new vs h v g e = goes_on c c1 old m r new g (subst (λ (ts : Vec Task Global). AreFit (length p.types.shapes) old.tasks.items → AreFit (length p.types.shapes) ts.items) (sym h.tasks) (λ a. a))
      (let t : m.machine.turns ≡ old.machine.turns = ap (λ (k1 : Machine). k1.turns) h.machine in omega (arith, t))
      (λ n le. e n (rest p n old.tasks.items) old.depth (views old.machine.frame.items) (world_view old.machine.world) old.machine.turns ∙ sym (kept_state p c1 n old m vs h v))

  pub goes_given : (c : Work) (old m : Engine) (u : X) (vs : List meant.Value) → IsKept old m → views m.values.items ≡ vs → ((n : ℕ) (s : Rest) → Same (c n s (views old.values.items)) (s.go vs)) → Goes p c old (Ok u) m
  goes_given c old m u vs h v e = record {
    fits = subst (λ (ts : Vec Task Global). AreFit (length p.types.shapes) old.tasks.items → AreFit (length p.types.shapes) ts.items) (sym h.tasks) (λ a. a);
    turns = (let t : m.machine.turns ≡ old.machine.turns = ap (λ (k1 : Machine). k1.turns) h.machine in omega (arith, t));
    next = λ n le. e n (rest p n old.tasks.items) old.depth (views old.machine.frame.items) (world_view old.machine.world) old.machine.turns ∙ sym (kept_state p (λ n1 s us. s.go us) n old m vs h v);
  }

  -- at this state
  pub given_at : (c : Work) (old m : Engine) (u : X) (vs : List meant.Value) → IsKept old m → views m.values.items ≡ vs → ((n : ℕ) → old.machine.turns < n → in_state (c n (rest p n old.tasks.items) (views old.values.items)) old ≡ in_state ((rest p n old.tasks.items).go vs) old) → Goes p c old (Ok u) m
  given_at c old m u vs h v e = record {
    fits = subst (λ (ts : Vec Task Global). AreFit (length p.types.shapes) old.tasks.items → AreFit (length p.types.shapes) ts.items) (sym h.tasks) (λ a. a);
    turns = (let t : m.machine.turns ≡ old.machine.turns = ap (λ (k1 : Machine). k1.turns) h.machine in omega (arith, t));
    next = λ n le. e n le ∙ sym (kept_state p (λ n1 s us. s.go us) n old m vs h v);
  }

  pub goes_undecided : (c : Work) (old : Engine) → ((n : ℕ) (s : Rest) → in_state (c n s (views old.values.items)) old ≡ Undecided (world_view old.machine.world).output) → Goes {X = X} p c old (Err exit.Undecided) old
  goes_undecided c old e = record { fits = λ a. a; turns = omega arith; next = λ n le. e n (rest p n old.tasks.items) }

  -- a turn was spent behind a change of the values
  pub goes_spent : (c c1 : Work) (old m1 m : Engine) (r : Result X Exit) (new : Engine) (vs : List meant.Value) → IsKept old m1 → views m1.values.items ≡ vs → m.tasks ≡ m1.tasks → m.values ≡ m1.values → m.depth ≡ m1.depth →
      (m.machine.frame ≡ m1.machine.frame) × (m.machine.world ≡ m1.machine.world) × (m1.machine.turns ≡ suc m.machine.turns) → Goes p c1 m r new →
      ((n : ℕ) (s : Rest) (d : ℕ) (f : List meant.Value) (w : World) (t : ℕ) → c n s (views old.values.items) d f w (suc t) ≡ c1 n s vs d f w t) → Goes p c old r new
  goes_spent c c1 old m1 m r new vs h v et ev ed sp g e =
      let tasks : m.tasks ≡ old.tasks = et ∙ h.tasks in
      let values : views m.values.items ≡ vs = ap (λ (k : Vec Value Global). views k.items) ev ∙ v in
      let turns : old.machine.turns ≡ suc m.machine.turns = ap (λ (k : Machine). k.turns) (sym h.machine) ∙ sp.2 in
      goes_on c c1 old m r new g (subst (λ (ts : Vec Task Global). AreFit (length p.types.shapes) old.tasks.items → AreFit (length p.types.shapes) ts.items) (sym tasks) (λ a. a)) (omega (arith, turns))
      (λ n le. ap (λ (t : ℕ). c n (rest p n old.tasks.items) (views old.values.items) old.depth (views old.machine.frame.items) (world_view old.machine.world) t) turns
      ∙ (e n (rest p n old.tasks.items) old.depth (views old.machine.frame.items) (world_view old.machine.world) m.machine.turns
      ∙ (ap (λ (k : Machine). c1 n (rest p n old.tasks.items) vs old.depth (views k.frame.items) (world_view k.world) m.machine.turns) (sym h.machine)
      ∙ (ap (λ fr. c1 n (rest p n old.tasks.items) vs old.depth (views fr.items) (world_view m1.machine.world) m.machine.turns) (sym sp.0)
      ∙ (ap (λ w. c1 n (rest p n old.tasks.items) vs old.depth (views m.machine.frame.items) (world_view w) m.machine.turns) (sym sp.1)
      ∙ (ap (λ (d : ℕ). c1 n (rest p n old.tasks.items) vs d (views m.machine.frame.items) (world_view m.machine.world) m.machine.turns) (sym (ed ∙ h.depth))
      ∙ (ap (λ (us : List meant.Value). in_state (c1 n (rest p n old.tasks.items) us) m) (sym values)
      ∙ ap (λ (ts : Vec Task Global). in_state (c1 n (rest p n ts.items) (views m.values.items)) m) (sym tasks))))))))

  pub goes_unspent : (c : Work) (old m1 m : Engine) → IsKept old m1 → m.tasks ≡ m1.tasks → m.depth ≡ m1.depth → m.machine ≡ m1.machine → m1.machine.turns ≡ 0 →
      ((n : ℕ) (s : Rest) (d : ℕ) (f : List meant.Value) (w : World) → c n s (views old.values.items) d f w 0 ≡ Undecided w.output) → Goes {X = X} p c old (Err exit.Undecided) m
  goes_unspent c old m1 m h et ed em z e =
      let turns : old.machine.turns ≡ 0 = ap (λ (k : Machine). k.turns) (sym h.machine) ∙ z in
      let same : m.machine ≡ old.machine = em ∙ h.machine in
      record {
        fits = subst (λ (ts : Vec Task Global). AreFit (length p.types.shapes) old.tasks.items → AreFit (length p.types.shapes) ts.items) (sym (et ∙ h.tasks)) (λ a. a);
        turns = (let t : m.machine.turns ≡ old.machine.turns = ap (λ (k1 : Machine). k1.turns) same in omega (arith, t));
        next = λ n le. ap (λ (t : ℕ). c n (rest p n old.tasks.items) (views old.values.items) old.depth (views old.machine.frame.items) (world_view old.machine.world) t) turns
            ∙ (e n (rest p n old.tasks.items) old.depth (views old.machine.frame.items) (world_view old.machine.world) ∙ ap (λ (k : Machine). Undecided (world_view k.world).output) (sym same));
      }

  -- a body ends
  pub goes_returned : (c : Work) (old m : Engine) (us : Values) (vs : List meant.Value) → IsKept old m → views m.values.items ≡ vs → ((n : ℕ) (s : Rest) → Same (c n s (views old.values.items)) (s.out vs (Return (values_view us)))) → Goes {X = X} p c old (Err (exit.Return us)) m
  goes_returned c old m us vs h v e = record {
    fits = subst (λ (ts : Vec Task Global). AreFit (length p.types.shapes) old.tasks.items → AreFit (length p.types.shapes) ts.items) (sym h.tasks) (λ a. a);
    turns = (let t : m.machine.turns ≡ old.machine.turns = ap (λ (k1 : Machine). k1.turns) h.machine in omega (arith, t));
    next = λ n le. e n (rest p n old.tasks.items) old.depth (views old.machine.frame.items) (world_view old.machine.world) old.machine.turns ∙ sym (kept_state p (λ n1 s ws. s.out ws (Return (values_view us))) n old m vs h v);
  }

  -- an operation was performed on operands that were taken
  pub goes_worlded : (c c1 : Work) (old m1 m : Engine) (r : Result X Exit) (new : Engine) (vs : List meant.Value) → IsKept old m1 → views m1.values.items ≡ vs →
      m.tasks ≡ m1.tasks → m.values ≡ m1.values → m.depth ≡ m1.depth → m.machine.frame ≡ m1.machine.frame → m.machine.turns ≡ m1.machine.turns → Goes p c1 m r new →
      ((n : ℕ) (s : Rest) (d : ℕ) (f : List meant.Value) (t : ℕ) → c n s (views old.values.items) d f (world_view old.machine.world) t ≡ c1 n s vs d f (world_view m.machine.world) t) → Goes p c old r new
  goes_worlded c c1 old m1 m r new vs h v et ev ed ef en g e =
      goes_on c c1 old m r new g (subst (λ (ts : Vec Task Global). AreFit (length p.types.shapes) old.tasks.items → AreFit (length p.types.shapes) ts.items) (sym (et ∙ h.tasks)) (λ a. a))
      (let t : m.machine.turns ≡ old.machine.turns = en ∙ ap (λ (k1 : Machine). k1.turns) h.machine in omega (arith, t))
      (λ n le. e n (rest p n old.tasks.items) old.depth (views old.machine.frame.items) old.machine.turns
      ∙ (sym (worlded_state p c1 n old m1 vs h v (world_view m.machine.world))
      ∙ (ap (λ (ts : Vec Task Global). c1 n (rest p n ts.items) (views m1.values.items) m1.depth (views m1.machine.frame.items) (world_view m.machine.world) m1.machine.turns) (sym et)
      ∙ (ap (λ (k : Vec Value Global). c1 n (rest p n m.tasks.items) (views k.items) m1.depth (views m1.machine.frame.items) (world_view m.machine.world) m1.machine.turns) (sym ev)
      ∙ (ap (λ (d : ℕ). c1 n (rest p n m.tasks.items) (views m.values.items) d (views m1.machine.frame.items) (world_view m.machine.world) m1.machine.turns) (sym ed)
      ∙ (ap (λ fr. c1 n (rest p n m.tasks.items) (views m.values.items) m.depth (views fr.items) (world_view m.machine.world) m1.machine.turns) (sym ef)
      ∙ ap (λ (t : ℕ). c1 n (rest p n m.tasks.items) (views m.values.items) m.depth (views m.machine.frame.items) (world_view m.machine.world) t) (sym en)))))))

  pub goes_panicked : (m : Engine) (k : Panic) → Goes {X = X} p (λ n s us. s.out us (Panics (panic_view k))) m (Err (exit.Panic k)) m
  goes_panicked m k = record { fits = λ a. a; turns = omega arith; next = λ n le. refl }

  -- only the values are others, at this state
  pub goes_kept_at : (c c1 : Work) (old m : Engine) (r : Result X Exit) (new : Engine) (vs : List meant.Value) → IsKept old m → views m.values.items ≡ vs → Goes p c1 m r new →
      ((n : ℕ) (s : Rest) → old.machine.turns < n → in_state (c n s (views old.values.items)) old ≡ in_state (c1 n s vs) old) → Goes p c old r new
  goes_kept_at c c1 old m r new vs h v g e = goes_on c c1 old m r new g (subst (λ (ts : Vec Task Global). AreFit (length p.types.shapes) old.tasks.items → AreFit (length p.types.shapes) ts.items) (sym h.tasks) (λ a. a))
      (let t : m.machine.turns ≡ old.machine.turns = ap (λ (k1 : Machine). k1.turns) h.machine in omega (arith, t))
      (λ n le. e n (rest p n old.tasks.items) le ∙ sym (kept_state p c1 n old m vs h v))
