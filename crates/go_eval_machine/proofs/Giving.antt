-- What steps come to that give at once what is ready.
use Rattle.std.proofs.Common.{◌≡◌, ◌<◌, ◌≤◌, ℕ, zero, suc, ◌+◌, List, [], ◌∷◌, ◌++◌, take, drop, length, refl, sym, ap, ◌∙◌, subst, arith, Result, Ok, inl, inr, ◌⊎◌, Option, Some, None}
use Rattle.std.proofs.Math.ListN.{get_or-eq_default}
use Rattle.std.proofs.lemmas.Bool.{cases_lt}
use Rattle.go_types_relations.specs.Questions.{entry}
use Rattle.go_typed.specs.declared.node.TypedNode.{TypedNode}
use Rattle.go_typed.specs.declared.node.TypedNode.TheViews.{out-TypedNode}
use Rattle.go_typed.specs.Packages.{PackageView}
use Rattle.go_meaning.specs.Values as meant
use Rattle.go_meaning.specs.Computations.{World, Comp, Outcome, Ends, Next, end_by, give, then_do, each}
use Rattle.go_meaning.specs.Doings.{Doing, absent, at, values_of, finds_of}
use Rattle.go_values.specs.Views.{views}
use Rattle.go_values.specs.Worlds.{world_view}
use Rattle.go_eval_plans.specs.declared.machine.Machine.{Machine}
use Rattle.go_eval_plans.specs.Machines.{outcome, ends}
use Rattle.go_eval_plans.specs.Programs.{doing}
use Rattle.go_eval_plans.proofs.Public.{at_some, at_none}
use Rattle.go_eval_plans.specs.declared.exit.Exit.{Exit}
use Rattle.go_eval_machine.specs.declared.task.What.{What}
use Rattle.go_eval_machine.specs.declared.task.What.TheVariants as what
use Rattle.go_eval_machine.specs.declared.engine.Engine.{Engine}
use Rattle.go_eval_machine.specs.Rests.{Rest, go_by, before, behind, then_rest, adding}
use Rattle.go_eval_machine.specs.Tasks.{parts_of, rest, task_rest}
use Rattle.go_eval_machine.specs.Engines.{in_state, Goes, IsKept, works, asks_part, seeks_part, lays_values}
use Rattle.go_eval_machine.specs.Giving.{Gave, GaveParts}
use Rattle.go_eval_machine.proofs.Rests.{Same, lowered, nothing_more, gives_nothing, whole}
use Rattle.go_eval_machine.proofs.Going.{given_at, goes_kept_at}
use Rattle.go_eval_machine.proofs.Gathering.{values_next, values_done, values_over}

pub kept_still : (m : Engine) → IsKept m m
kept_still m = record { tasks = refl; machine = refl; depth = refl }

kept_on : (old m m1 : Engine) → IsKept old m → IsKept m m1 → IsKept old m1
kept_on old m m1 h h1 = record { tasks = h1.tasks ∙ h.tasks; machine = h1.machine ∙ h.machine; depth = h1.depth ∙ h.depth }

-- a computation that ends in this state with these values
pub then_ends : (c : Comp) (r : Rest) (vs us : List meant.Value) (d : ℕ) (f : List meant.Value) (w : World) (t : ℕ) → c d f w t ≡ Ends (Next us) f w t → then_rest c r vs d f w t ≡ r.go (vs ++ us) d f w t
unfolding before
then_ends c r vs us d f w t e = ap (λ (o : Outcome). go_by o (λ e1 f1 w1 t1. behind r vs vs e1 d f1 w1 t1)) e

-- a part that was given
pub asked_given : (p : PackageView) (x : TypedNode) (k : ℕ) (old m : Engine) (u : Unit {0}) → Gave (λ q n. (at (parts_of q n x) k).value) old m → Goes p (asks_part p x k) old (Ok u) m
asked_given p x k old m u g = given_at p (asks_part p x k) old m u (views old.values.items ++ g.all) g.kept g.values
    (λ n le. then_ends (at (parts_of p n x) k).value (rest p n old.tasks.items) (views old.values.items) g.all old.depth (views old.machine.frame.items) (world_view old.machine.world) old.machine.turns (g.is p n))

module _ (p : PackageView) (n : ℕ) (x : TypedNode) (k : ℕ) where
  module _ (xs : List (Option TypedNode)) (e : xs ≡ (out-TypedNode x).parts.items) where
    pub part_nothing : entry xs k ≡ None → (d : ℕ) (m : Machine) → outcome (at (parts_of p n x) k).value d m ≡ ends (Next []) m
    unfolding end_by
    part_nothing h d m = ap (λ (z : Doing). outcome z.value d m) (at_none p n (out-TypedNode x).parts.items k (ap (λ (ys : List (Option TypedNode)). entry ys k) (sym e) ∙ h))

    pub part_gives : (y : TypedNode) → entry xs k ≡ Some y → (d : ℕ) (m : Machine) (us : List meant.Value) → outcome (doing p n y).value d m ≡ ends (Next us) m → outcome (at (parts_of p n x) k).value d m ≡ ends (Next us) m
    part_gives y h d m us g = ap (λ (z : Doing). outcome z.value d m) (at_some p n (out-TypedNode x).parts.items k y (ap (λ (ys : List (Option TypedNode)). entry ys k) (sym e) ∙ h)) ∙ g

    pub part_plain : (y : TypedNode) → entry xs k ≡ Some y → (doing p n y).find ≡ give [] → (at (parts_of p n x) k).find ≡ give []
    part_plain y h g = ap (λ (z : Doing). z.find) (at_some p n (out-TypedNode x).parts.items k y (ap (λ (ys : List (Option TypedNode)). entry ys k) (sym e) ∙ h)) ∙ g

-- a place without operands
pub sought_nothing : (p : PackageView) (n : ℕ) (x : TypedNode) (r : Rest) (vs : List meant.Value) (k : ℕ) → (at (parts_of p n x) k).find ≡ give [] → Same (seeks_part p x k n r vs) (r.go vs)
sought_nothing p n x r vs k e d f w t = ap (λ (c : Comp). then_rest c r vs d f w t) e ∙ gives_nothing r vs d f w t

-- ---- the values of parts, one after the other

low_take : (b low : ℕ) (vs : List meant.Value) → low ≡ length (take b vs) → take low vs ≡ take b vs
low_take b low vs l = ap (take low) (sym (nothing_more vs)) ∙ lowered b vs [] low l

module _ (p : PackageView) (n : ℕ) (x : TypedNode) (b : ℕ) (r : Rest) (vs : List meant.Value) where
  -- a base that is no higher than the values
  pub values_lowered : (low k end : ℕ) → low ≡ length (take b vs) → Same (works p x b (what.Values k end) n r vs) (works p x low (what.Values k end) n r vs)
  unfolding task_rest
  values_lowered low k end l d f w t = ap (λ us. before (each (values_of (drop k (take end (parts_of p n x)))) give) (behind r vs us) d f w t) (sym (low_take b low vs l))

  -- the next one, which may be none
  pub values_step : (k end low : ℕ) → low ≡ length (take b vs) → k < end → Same (works p x b (what.Values k end) n r vs) (asks_part p x k n (task_rest p n x low (what.Values (suc k) end) r) vs)
  values_step k end low l h = by_place (cases_lt k (length (parts_of p n x)))
    where
      by_place : (k < length (parts_of p n x)) ⊎ (length (parts_of p n x) ≤ k) → Same (works p x b (what.Values k end) n r vs) (asks_part p x k n (task_rest p n x low (what.Values (suc k) end) r) vs)
      by_place (inl h1) = values_next p n x b r vs k end (suc k) low refl l h h1
      by_place (inr h1) = λ d f w t. values_over p n x b r vs k end h1 d f w t
          ∙ sym (ap (λ (z : Doing). then_rest z.value (task_rest p n x low (what.Values (suc k) end) r) vs d f w t) (get_or-eq_default (parts_of p n x) absent h1)
          ∙ (gives_nothing (task_rest p n x low (what.Values (suc k) end) r) vs d f w t ∙ values_over p n x low r vs (suc k) end (omega (arith, h1)) d f w t))

module _ (x : TypedNode) (k end : ℕ) where
  pub gave_none_yet : (m : Engine) → GaveParts x k end k m m
  gave_none_yet m = record { kept = kept_still m; base = λ b e. e; left = λ p n b r e. refl }

  pub gave_one_more : (j i : ℕ) (old m m1 : Engine) → i ≡ suc j → j < end → GaveParts x k end j old m → Gave (λ p n. (at (parts_of p n x) j).value) m m1 → GaveParts x k end i old m1
  gave_one_more j i old m m1 ei h g g1 = rw ei (record {
    kept = kept_on old m m1 g.kept g1.kept;
    base = λ b e. subst (λ us. b ≡ length (take b us)) (sym g1.values) (g.base b e ∙ ap length (sym (lowered b (views m.values.items) g1.all b (g.base b e))));
    left = λ p n b r e.
        let s = task_rest p n x b (what.Values (suc j) end) r in
        let vs = views m.values.items in
        let is : outcome (at (parts_of p n x) j).value old.depth old.machine ≡ ends (Next g1.all) old.machine =
        subst (λ (d : ℕ). outcome (at (parts_of p n x) j).value d old.machine ≡ ends (Next g1.all) old.machine) g.kept.depth
        (subst (λ (q : Machine). outcome (at (parts_of p n x) j).value m.depth q ≡ ends (Next g1.all) q) g.kept.machine (g1.is p n)) in
        g.left p n b r e
        ∙ (values_step p n x b r vs j end b (g.base b e) h old.depth (views old.machine.frame.items) (world_view old.machine.world) old.machine.turns
        ∙ (then_ends (at (parts_of p n x) j).value s vs g1.all old.depth (views old.machine.frame.items) (world_view old.machine.world) old.machine.turns is
        ∙ ap (λ us. in_state (s.go us) old) (sym g1.values)));
  })

  -- behind the last one nothing is left
  pub gave_all : (j : ℕ) (old m : Engine) → end ≤ j → GaveParts x k end j old m → GaveParts x k end end old m
  gave_all j old m h g = record {
    kept = g.kept;
    base = g.base;
    left = λ p n b r e. g.left p n b r e
        ∙ (values_done p n x b r (views m.values.items) j end h old.depth (views old.machine.frame.items) (world_view old.machine.world) old.machine.turns
        ∙ sym (values_done p n x b r (views m.values.items) end end (omega arith) old.depth (views old.machine.frame.items) (world_view old.machine.world) old.machine.turns));
  }

module _ (p : PackageView) (x : TypedNode) (k end j b low : ℕ) (old m : Engine) (l : low ≡ length (take b (views old.values.items))) (g : GaveParts x k end j old m) where
  still : low ≡ length (take low (views old.values.items))
  still = l ∙ ap length (sym (low_take b low (views old.values.items) l))

  pub gave_low : low ≡ length (take low (views m.values.items))
  gave_low = g.base low still

  pub goes_gave : {X : Type 0} (r : Result X Exit) (new : Engine) → Goes p (works p x low (what.Values j end)) m r new → Goes p (works p x b (what.Values k end)) old r new
  goes_gave r new h = goes_kept_at p (works p x b (what.Values k end)) (works p x low (what.Values j end)) old m r new (views m.values.items) g.kept refl h
      (λ n s le. values_lowered p n x b s (views old.values.items) low k end l old.depth (views old.machine.frame.items) (world_view old.machine.world) old.machine.turns ∙ g.left p n low s still)

-- and then a task behind all of them
pub goes_laid_parts : {X : Type 0} (p : PackageView) (x : TypedNode) (w : What) (end j b : ℕ) (old m : Engine) → b ≡ length (views old.values.items) → GaveParts x 0 end j old m → (r : Result X Exit) (new : Engine) →
    Goes p (λ n s us. works p x b (what.Values j end) n (task_rest p n x b w s) us) m r new → Goes p (lays_values p x w end) old r new
goes_laid_parts p x w end j b old m e g r new h = goes_kept_at p (lays_values p x w end) (λ n s us. works p x b (what.Values j end) n (task_rest p n x b w s) us) old m r new (views m.values.items) g.kept refl h
    (λ n s le. ap (λ (k : ℕ). in_state ((task_rest p n x k (what.Values 0 end) (task_rest p n x k w s)).go (views old.values.items)) old) (sym e)
    ∙ g.left p n b (task_rest p n x b w s) (e ∙ ap length (sym (rw e (whole (views old.values.items))))))

-- ---- the operands of parts that are places without operands

skip_one : (xs : List Doing) (k end : ℕ) → (at xs k).find ≡ give [] → (b : ℕ) (r : Rest) (vs : List meant.Value) → Same ((adding b (each (finds_of (drop k (take end xs))) give) r).go vs) ((adding b (each (finds_of (drop (suc k) (take end xs))) give) r).go vs)
unfolding before each then_do end_by
skip_one [] zero zero e b r vs d f w t = refl
skip_one [] (suc k) zero e b r vs d f w t = refl
skip_one [] zero (suc end) e b r vs d f w t = refl
skip_one [] (suc k) (suc end) e b r vs d f w t = refl
skip_one (x ∷ xs) zero zero e b r vs d f w t = refl
skip_one (x ∷ xs) (suc k) zero e b r vs d f w t = refl
skip_one (x ∷ xs) zero (suc end) e b r vs d f w t = ap (λ (c : Comp). (adding b (each (c ∷ finds_of (take end xs)) give) r).go vs d f w t) e
skip_one (x ∷ xs) (suc k) (suc end) e b r vs d f w t = skip_one xs k end e b r vs d f w t

module _ (p : PackageView) (n : ℕ) (x : TypedNode) (b : ℕ) (r : Rest) (vs : List meant.Value) where
  find_skipped : (k end : ℕ) → (at (parts_of p n x) k).find ≡ give [] → Same (works p x b (what.Finds k end) n r vs) (works p x b (what.Finds (suc k) end) n r vs)
  unfolding task_rest
  find_skipped k end e = skip_one (parts_of p n x) k end e b r vs

  pub finds_skipped : (i k end j : ℕ) → j ≡ i + k → ((l : ℕ) → k ≤ l → l < j → (at (parts_of p n x) l).find ≡ give []) → Same (works p x b (what.Finds k end) n r vs) (works p x b (what.Finds j end) n r vs)
  finds_skipped zero k end j e h = let e1 : j ≡ k = omega (arith, e) in rw e1 (λ d f w t. refl)
  finds_skipped (suc i) k end j e h = λ d f w t. find_skipped k end (h k (omega arith) (omega (arith, e))) d f w t
      ∙ finds_skipped i (suc k) end j (omega (arith, e)) (λ l h1 h2. h l (omega (arith, h1)) h2) d f w t
