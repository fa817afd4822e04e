-- What `x++` and `x op= y` come to.
use Rattle.std.proofs.Common.{◌≡◌, ℕ, zero, suc, List, [], ◌∷◌, ◌++◌, take, drop, length, refl, sym, ap, ◌∙◌, subst, Ok, Err, Result, Option, Some, None, arith}
use Rattle.std.specs.Prelude.{pos}
use Rattle.go_typed.specs.declared.node.TypedNode.{TypedNode}
use Rattle.go_typed.specs.Packages.{PackageView}
use Rattle.go_meaning.specs.Values as meant
use Rattle.go_meaning.specs.Values.{Whole, nth}
use Rattle.go_meaning.specs.Computations as meaning
use Rattle.go_meaning.specs.Computations.{World, Outcome, Ends, Comp, end_by, give, then_do, one}
use Rattle.go_meaning.specs.Doings.{Doing, at}
use Rattle.go_meaning.specs.Operations.{Operation, Deed, Gives, perform, done, operate}
use Rattle.go_values.specs.declared.value.Value.{Value}
use Rattle.go_values.specs.declared.panic.Stop.{Stop}
use Rattle.go_values.specs.declared.panic.Stop.TheVariants as stop
use Rattle.go_values.specs.Views.{views}
use Rattle.go_values.specs.Worlds.{world_view}
use Rattle.go_eval_operations.specs.Performing.{IsPerformed}
use Rattle.go_eval_plans.specs.declared.exit.Exit.{Exit}
use Rattle.go_eval_plans.specs.declared.machine.Machine.{Machine}
use Rattle.go_eval_plans.specs.Machines.{outcome, ends, IsLeft, IsExitOf, Reads}
use Rattle.go_eval_plans.proofs.Public.{one_is, one_left}
use Rattle.go_eval_machine.specs.declared.engine.Engine.{Engine}
use Rattle.go_eval_machine.specs.declared.task.What.TheVariants as what
use Rattle.go_eval_machine.specs.Rests.{Rest, go_by, before, behind, then_rest}
use Rattle.go_eval_machine.specs.Tasks.{parts_of, planned, task_rest, rest, loaded_at, operated_at, IsFit}
use Rattle.go_eval_machine.specs.Engines.{Work, Goes, IsKept, IsPushed, works}
use Rattle.go_eval_machine.proofs.Going.{goes_on, pushed_state}
use Rattle.go_eval_machine.proofs.Rests.{Same, then_before, same_out, front, back, joined, lowered}
use Rattle.go_eval_machine.proofs.Writing.{set_left}
use Rattle.go_eval_plans.specs.declared.plan.Operation.{Operation as PlanOperation}
use Rattle.go_eval_machine.specs.Loaded.{given_values}
use Rattle.go_eval_machine.proofs.GoingAssignments.{goes_written}
use Rattle.go_eval_machine.proofs.Storing.{then_to, then_left}

-- ---- the operation and the assignment

operation_done : (o : Operation) (us : List meant.Value) (d : ℕ) (m m1 : Machine) (vs : List meant.Value) → perform o us (world_view m.world) ≡ Gives vs (world_view m1.world) → m1.frame ≡ m.frame → m1.turns ≡ m.turns → outcome (operate o us) d m ≡ ends (meaning.Next vs) m1
unfolding operate
operation_done o us d m m1 vs e f t = ap (λ (x : Deed). done x (views m.frame.items) (world_view m.world) m.turns) e
    ∙ (ap (λ fr. Ends (meaning.Next vs) (views fr.items) (world_view m1.world) m.turns) (sym f) ∙ ap (λ (u : ℕ). Ends (meaning.Next vs) (views m1.frame.items) (world_view m1.world) u) (sym t))

-- what the operation gave is assigned
pub operated : (o : Operation) (us : List meant.Value) (k : meant.Value → Comp) (d : ℕ) (m m1 : Machine) (vs : List meant.Value) → perform o us (world_view m.world) ≡ Gives vs (world_view m1.world) → m1.frame ≡ m.frame → m1.turns ≡ m.turns →
    outcome (one (operate o us) k) d m ≡ outcome (k (nth vs 0)) d m1
operated o us k d m m1 vs e f t = then_to (operate o us) (λ ws. k (nth ws 0)) d m m1 vs (operation_done o us d m m1 vs e f t)

pub performed : (v : Option Value) (d : Deed) (w w1 : World) → IsPerformed (Ok v) d w w1 → d ≡ Gives (given_values v) w1
performed None d w w1 h = h
performed (Some v) d w w1 h = h

pub not_operated : (o : Operation) (us : List meant.Value) (k : meant.Value → Comp) (d : ℕ) (m m1 : Machine) (s : Stop) (e : Exit) → IsPerformed (Err s) (perform o us (world_view m.world)) (world_view m.world) (world_view m1.world) → m1.frame ≡ m.frame → m1.turns ≡ m.turns → IsExitOf s e →
    IsLeft e m1 (outcome (one (operate o us) k) d m)
not_operated o us k d m m1 (stop.Panic p) e h f t i = then_left (operate o us) (λ ws. k (nth ws 0)) d m m1 e (set_left o us d m m1 (stop.Panic p) e h f t i)
not_operated o us k d m m1 stop.Memory e h f t i = then_left (operate o us) (λ ws. k (nth ws 0)) d m m1 e (set_left o us d m m1 stop.Memory e h f t i)

-- ---- the place is read, and then the other operand is asked

-- the least of a base and the number of values
drop_low : (b : ℕ) (vs : List meant.Value) → drop (length (take b vs)) vs ≡ drop b vs
drop_low zero vs = refl
drop_low (suc b) [] = refl
drop_low (suc b) (v ∷ vs) = drop_low b vs

take_low : (b : ℕ) (vs : List meant.Value) → take (length (take b vs)) vs ≡ take b vs
take_low zero vs = refl
take_low (suc b) [] = refl
take_low (suc b) (v ∷ vs) = ap (λ us. v ∷ us) (take_low b vs)

module _ (p : PackageView) (n : ℕ) (x : TypedNode) (o : PlanOperation) (b : ℕ) (vs : List meant.Value) where
  abbrev operated_by : List meant.Value → meant.Value → meant.Value → Comp
  operated_by us v u = operated_at (planned p x o) (at (parts_of p n x) 0) us v u

  module _ (r : Rest) (k low : ℕ) (e : k ≡ length vs) (el : low ≡ length (take b vs)) where
    -- what stands behind the value of x and what the other operand gives
    abbrev behind_both : List meant.Value → List meant.Value → Comp
    behind_both us ws = then_rest (operated_by (drop low us) (nth ws 0) (nth ws 1)) r (take low us)

    stands_so : (v : meant.Value) (us : List meant.Value) → Same (then_rest (operated_by (drop b vs) v (nth us 0)) r (take b vs)) (behind_both (take k ((vs ++ v ∷ []) ++ us)) (drop k ((vs ++ v ∷ []) ++ us)))
    stands_so v us d f w t =
        let low_drop : drop low vs ≡ drop b vs = rw el (drop_low b vs) in
        let low_take : take low vs ≡ take b vs = rw el (take_low b vs) in
        let in_front : take k (vs ++ v ∷ us) ≡ vs = rw e (front vs (v ∷ us)) in
        let at_back : drop k (vs ++ v ∷ us) ≡ v ∷ us = rw e (back vs (v ∷ us)) in
        ap (λ (ws : List meant.Value). then_rest (operated_by ws v (nth us 0)) r (take b vs) d f w t) (sym low_drop)
        ∙ (ap (λ (ws : List meant.Value). then_rest (operated_by (drop low vs) v (nth us 0)) r ws d f w t) (sym low_take)
        ∙ (ap (λ (ws : List meant.Value). behind_both ws (v ∷ us) d f w t) (sym in_front)
        ∙ (ap (λ (ws : List meant.Value). behind_both (take k (vs ++ v ∷ us)) ws d f w t) (sym at_back)
        ∙ ap (λ (ws : List meant.Value). behind_both (take k ws) (drop k ws) d f w t) (sym (joined vs (v ∷ []) us)))))

    value_then : (v : meant.Value) (y : Comp) → Same (then_rest (one y (λ u. operated_by (drop b vs) v u)) r (take b vs)) (then_rest y (task_rest p n x low (what.Operate o k) r) (vs ++ v ∷ []))
    unfolding task_rest
    value_then v y = then_before y (λ us. operated_by (drop b vs) v (nth us 0)) (behind r (take b vs) (take b vs)) (behind (task_rest p n x low (what.Operate o k) r) (vs ++ v ∷ []) (vs ++ v ∷ []))
        (stands_so v)
        (same_out r (take b vs) (vs ++ v ∷ []) (take b vs) (take low (vs ++ v ∷ [])) (sym (lowered b vs (v ∷ []) low el)))

    -- the place was read
    pub read_then : (d : ℕ) (m : Machine) (v : meant.Value) (y : Comp) → Reads ((at (parts_of p n x) 0).load (drop b vs)) d m v →
        then_rest (loaded_at (planned p x o) (at (parts_of p n x) 0) y (drop b vs)) r (take b vs) d (views m.frame.items) (world_view m.world) m.turns
        ≡ then_rest y (task_rest p n x low (what.Operate o k) r) (vs ++ v ∷ []) d (views m.frame.items) (world_view m.world) m.turns
    unfolding before
    read_then d m v y h =
        ap (λ (oc : Outcome). go_by oc (λ e1 f1 w1 t1. behind r (take b vs) (take b vs) e1 d f1 w1 t1)) (one_is ((at (parts_of p n x) 0).load (drop b vs)) (λ u1. one y (λ u. operated_by (drop b vs) u1 u)) d m v h)
        ∙ value_then v y d (views m.frame.items) (world_view m.world) m.turns

-- and wasn't
module _ (p : PackageView) (c : Work) (x : TypedNode) (o : PlanOperation) (b : ℕ) (y : ℕ → Comp) (old m : Engine)
    (e : (n : ℕ) (s : Rest) → Same (c n s (views old.values.items)) (then_rest (loaded_at (planned p x o) (at (parts_of p n x) 0) (y n) (drop b (views old.values.items))) s (take b (views old.values.items)))) where
  pub not_read : (exit : Exit) → IsKept old m → views m.values.items ≡ take b (views old.values.items) →
      ((n : ℕ) → IsLeft exit old.machine (outcome ((at (parts_of p n x) 0).load (drop b (views old.values.items))) old.depth old.machine)) → Goes {X = Unit {0}} p c old (Err exit) m
  not_read exit h v l = goes_written p c (λ n. loaded_at (planned p x o) (at (parts_of p n x) 0) (y n) (drop b (views old.values.items))) old m (take b (views old.values.items)) h.tasks h.depth v
      (ap (λ (k : Machine). k.turns) h.machine) e (Err exit)
      (λ n. subst (λ (k : Machine). IsLeft exit k (outcome (loaded_at (planned p x o) (at (parts_of p n x) 0) (y n) (drop b (views old.values.items))) old.depth old.machine)) (sym h.machine)
      (one_left ((at (parts_of p n x) 0).load (drop b (views old.values.items))) (λ v1. one (y n) (λ u. operated_at (planned p x o) (at (parts_of p n x) 0) (drop b (views old.values.items)) v1 u)) old.depth old.machine exit (l n)))

-- ---- the tasks

reads_given : (v : meant.Value) (d : ℕ) (m : Machine) → Reads (give (v ∷ [])) d m v
unfolding end_by
reads_given v d m = record { all = v ∷ []; is = refl; first = refl }

-- the place was read, and the other operand is given
pub given_read : (o : Operation) (x : Doing) (us : List meant.Value) (u v : meant.Value) (d : ℕ) (m : Machine) → Reads (x.load us) d m v → outcome (loaded_at o x (give (u ∷ [])) us) d m ≡ outcome (one (operate o (v ∷ u ∷ [])) (x.store us)) d m
given_read o x us u v d m h = one_is (x.load us) (λ v1. one (give (u ∷ [])) (λ u1. operated_at o x us v1 u1)) d m v h ∙ one_is (give (u ∷ [])) (λ u1. operated_at o x us v u1) d m u (reads_given u d m)

module _ (p : PackageView) (x : TypedNode) (b : ℕ) (o : PlanOperation) (m : Engine) where
  pub step_reads : (n : ℕ) (s : Rest) → Same (works p x b (what.Step o) n s (views m.values.items)) (then_rest (loaded_at (planned p x o) (at (parts_of p n x) 0) (give (Whole (pos 1) ∷ [])) (drop b (views m.values.items))) s (take b (views m.values.items)))
  unfolding task_rest
  step_reads n s d f w t = refl

  pub load_reads : (n : ℕ) (s : Rest) → Same (works p x b (what.Load o) n s (views m.values.items)) (then_rest (loaded_at (planned p x o) (at (parts_of p n x) 0) (at (parts_of p n x) 1).value (drop b (views m.values.items))) s (take b (views m.values.items)))
  unfolding task_rest
  load_reads n s d f w t = refl

  pub operates_on : (k n : ℕ) (s : Rest) → Same (works p x b (what.Operate o k) n s (views m.values.items))
      (then_rest (one (operate (planned p x o) (nth (drop k (views m.values.items)) 0 ∷ nth (drop k (views m.values.items)) 1 ∷ [])) ((at (parts_of p n x) 0).store (drop b (take k (views m.values.items))))) s (take b (take k (views m.values.items))))
  unfolding task_rest
  operates_on k n s d f w t = refl

module _ (p : PackageView) (c : Work) (x : TypedNode) (o : PlanOperation) (b : ℕ) (y : ℕ → Comp) (old m0 m1 : Engine) where
  pub one_read : (v : meant.Value) → m0 ≡ old → ((n : ℕ) → Reads ((at (parts_of p n x) 0).load (drop b (views old.values.items))) old.depth old.machine v) → (k low : ℕ) → k ≡ length (views m0.values.items) → low ≡ length (take b (views m0.values.items)) →
      IsPushed x low (what.Operate o k) m0 m1 → IsFit (length p.types.shapes) x (what.Operate o k) →
      ((n : ℕ) (s : Rest) → Same (c n s (views old.values.items)) (then_rest (loaded_at (planned p x o) (at (parts_of p n x) 0) (y n) (drop b (views old.values.items))) s (take b (views old.values.items)))) →
      (r : Result (Unit {0}) Exit) (new : Engine) → Goes p (λ n s us. then_rest (y n) s (us ++ v ∷ [])) m1 r new → Goes p c old r new
  one_read v eq reads k low ek el pushed fit e r new g =
      let so : IsPushed x low (what.Operate o k) old m1 = subst (λ (q : Engine). IsPushed x low (what.Operate o k) q m1) eq pushed in
      goes_on p c (λ n s us. then_rest (y n) s (us ++ v ∷ [])) old m1 r new g (so.fits (length p.types.shapes) fit)
      (let t : m1.machine.turns ≡ old.machine.turns = ap (λ (q : Machine). q.turns) so.machine in omega (arith, t))
      (λ n le. e n (rest p n old.tasks.items) old.depth (views old.machine.frame.items) (world_view old.machine.world) old.machine.turns
      ∙ (read_then p n x o b (views old.values.items) (rest p n old.tasks.items) k low (ek ∙ ap (λ (q : Engine). length (views q.values.items)) eq) (el ∙ ap (λ (q : Engine). length (take b (views q.values.items))) eq) old.depth old.machine v (y n) (reads n)
      ∙ sym (pushed_state p (λ n1 s us. then_rest (y n1) s (us ++ v ∷ [])) n x low (what.Operate o k) old m1 so)))
