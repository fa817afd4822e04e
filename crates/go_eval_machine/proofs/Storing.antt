-- What assignments to several targets come to.
use Rattle.std.proofs.Common.{◌≡◌, ◌<◌, ◌≤◌, ℕ, zero, suc, List, [], ◌∷◌, take, drop, length, refl, sym, ap, ◌∙◌, subst, Option, arith, ◌⊎◌, inl, inr}
use Rattle.std.specs.Prelude.{slice_set, replicate}
use Rattle.go_types.specs.Tables.{type_of, rights_of}
use Rattle.go_typed.specs.declared.node.TypedNode.{TypedNode}
use Rattle.go_typed.specs.Packages.{PackageView}
use Rattle.go_meaning.specs.Values.{Value, NilFunction, nth, zero_value}
use Rattle.go_meaning.specs.Planning.{zero_in}
use Rattle.go_eval_plans.specs.Views.{type_in}
use Rattle.go_meaning.specs.Computations as meaning
use Rattle.go_meaning.specs.Computations.{Comp, Outcome, go_on, give, then_do}
use Rattle.go_meaning.specs.Doings.{Doing, at, stores}
use Rattle.go_eval_plans.specs.declared.exit.Exit.{Exit}
use Rattle.go_eval_plans.specs.declared.machine.Machine.{Machine}
use Rattle.go_eval_plans.specs.Machines.{outcome, ends, IsLeft}
use Rattle.go_eval_plans.specs.Programs.{doings}
use Rattle.go_eval_plans.proofs.Public.{on_left}
use Rattle.go_eval_machine.specs.declared.task.What.TheVariants as what
use Rattle.go_eval_machine.specs.Rests.{Rest, then_rest}
use Rattle.go_eval_machine.specs.Tasks.{parts_of, task_rest}
use Rattle.go_eval_machine.specs.Engines.{works}
use Rattle.go_eval_machine.proofs.Rests.{Same}
use Rattle.go_eval_machine.proofs.Begins.{as_many}
use Rattle.go_eval_machine.proofs.Gathering.{drop_taken, drop_short, drop_over}
use Rattle.go_eval_machine.proofs.Values.{nth_drop}
use Rattle.go_eval_machine.proofs.Writing.{written_nothing}

-- what comes behind an outcome, from its state on
pub then_to : (c : Comp) (k : List Value → Comp) (d : ℕ) (m m1 : Machine) (us : List Value) → outcome c d m ≡ ends (meaning.Next us) m1 → outcome (then_do c k) d m ≡ outcome (k us) d m1
unfolding then_do
then_to c k d m m1 us e = ap (λ (o : Outcome). go_on o (λ vs f1 w1 t1. k vs d f1 w1 t1)) e

pub then_left : (c : Comp) (k : List Value → Comp) (d : ℕ) (m m1 : Machine) (e : Exit) → IsLeft e m1 (outcome c d m) → IsLeft e m1 (outcome (then_do c k) d m)
unfolding then_do
then_left c k d m m1 e h = on_left e m1 (outcome c d m) (λ us f1 w1 t1. k us d f1 w1 t1) h

drop_next : (vs : List Value) (k : ℕ) → drop 1 (drop k vs) ≡ drop (suc k) vs
drop_next [] zero = refl
drop_next [] (suc k) = refl
drop_next (v ∷ vs) zero = refl
drop_next (v ∷ vs) (suc k) = drop_next vs k

drop_set : (vs : List Value) (k : ℕ) (v : Value) → drop (suc k) (slice_set vs k v) ≡ drop (suc k) vs
drop_set [] k v = refl
drop_set (u ∷ us) zero v = refl
drop_set (u ∷ us) (suc k) v = drop_set us k v

module _ (p : PackageView) (n : ℕ) (xs : List (Option TypedNode)) (m i : ℕ) where
  abbrev targets : List Doing
  targets = take m (doings p n xs)

  -- the next target
  next_target : i < m → i < length xs → drop i targets ≡ at (doings p n xs) i ∷ drop (suc i) targets
  next_target h h1 = drop_taken (doings p n xs) i m h (let e : length (doings p n xs) ≡ length xs = as_many p n xs in omega (arith, e))

  module _ (d : ℕ) (old new : Machine) (us vs : List Value) where
    abbrev first_store : Comp
    first_store = (at (doings p n xs) i).store (take (at (doings p n xs) i).width us) (nth (drop i vs) 0)

    stored_one : i < m → i < length xs → outcome (stores (drop i targets) us (drop i vs)) d old ≡ outcome (then_do first_store (λ no. stores (drop (suc i) targets) (drop (at (doings p n xs) i).width us) (drop 1 (drop i vs)))) d old
    unfolding stores
    stored_one h h1 = ap (λ (ys : List Doing). outcome (stores ys us (drop i vs)) d old) (next_target h h1)

    module _ (w : ℕ) (v : Value) (us1 us2 vs1 : List Value) (ew : w ≡ (at (doings p n xs) i).width) (e1 : us1 ≡ take w us) (ev : v ≡ nth vs i) where
      store_is : first_store ≡ (at (doings p n xs) i).store us1 v
      store_is = ap (λ (k : ℕ). (at (doings p n xs) i).store (take k us) (nth (drop i vs) 0)) (sym ew)
          ∙ (ap (λ (zs : List Value). (at (doings p n xs) i).store zs (nth (drop i vs) 0)) (sym e1)
          ∙ ap ((at (doings p n xs) i).store us1) (nth_drop vs i ∙ sym ev))

      -- it was assigned, and the others are left
      pub stored : i < m → i < length xs → us2 ≡ drop w us → vs1 ≡ slice_set vs i NilFunction → outcome ((at (doings p n xs) i).store us1 v) d old ≡ ends (meaning.Next []) new →
          outcome (stores (drop i targets) us (drop i vs)) d old ≡ outcome (stores (drop (suc i) targets) us2 (drop (suc i) vs1)) d new
      stored h h1 e2 es done = stored_one h h1
          ∙ (then_to first_store (λ no. stores (drop (suc i) targets) (drop (at (doings p n xs) i).width us) (drop 1 (drop i vs))) d old new [] (ap (λ (c : Comp). outcome c d old) store_is ∙ done)
          ∙ (ap (λ (k : ℕ). outcome (stores (drop (suc i) targets) (drop k us) (drop 1 (drop i vs))) d new) (sym ew)
          ∙ (ap (λ (zs : List Value). outcome (stores (drop (suc i) targets) zs (drop 1 (drop i vs))) d new) (sym e2)
          ∙ ap (λ (zs : List Value). outcome (stores (drop (suc i) targets) us2 zs) d new) (drop_next vs i ∙ (sym (drop_set vs i NilFunction) ∙ ap (drop (suc i)) (sym es))))))

      -- it wasn't
      pub not_stored : i < m → i < length xs → (e : Exit) → IsLeft e new (outcome ((at (doings p n xs) i).store us1 v) d old) → IsLeft e new (outcome (stores (drop i targets) us (drop i vs)) d old)
      not_stored h h1 e l = subst (IsLeft e new) (sym (stored_one h h1)) (then_left first_store (λ no. stores (drop (suc i) targets) (drop (at (doings p n xs) i).width us) (drop 1 (drop i vs))) d old new e
          (subst (λ (c : Comp). IsLeft e new (outcome c d old)) (sym store_is) l))

    -- all were
    pub all_stored : (m ≤ i) ⊎ (length xs ≤ i) → outcome (stores (drop i targets) us vs) d old ≡ ends (meaning.Next []) old
    unfolding stores
    all_stored h = ap (λ (ys : List Doing). outcome (stores ys us vs) d old) (nothing_left h) ∙ written_nothing d old
      where
        nothing_left : (m ≤ i) ⊎ (length xs ≤ i) → drop i targets ≡ []
        nothing_left (inl a) = drop_short (doings p n xs) i m a
        nothing_left (inr b) = drop_over (doings p n xs) i m (let e : length (doings p n xs) ≡ length xs = as_many p n xs in omega (arith, e))

-- ---- the tasks

module _ (p : PackageView) (n : ℕ) (x : TypedNode) (r : Rest) (vs : List Value) (b t : ℕ) where
  pub values_stored : (k : ℕ) → Same (works p x b (what.Store t k) n r vs) (then_rest (stores (take t (parts_of p n x)) (drop b (take k vs)) (drop k vs)) r (take b (take k vs)))
  unfolding task_rest
  values_stored k d f w u = refl

  pub zeros_stored : (ty : Option ℕ) → Same (works p x b (what.Zero t ty) n r vs) (then_rest (stores (take t (parts_of p n x)) (drop b vs) (replicate t (zero_value (zero_in (rights_of p.types) (type_in (type_of p.types.shapes) ty))))) r (take b vs))
  unfolding task_rest
  zeros_stored ty d f w u = refl
