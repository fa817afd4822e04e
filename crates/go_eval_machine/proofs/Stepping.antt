-- What steps of statements come to.
use Rattle.std.proofs.Common.{◌≡◌, ◌<◌, ◌≤◌, ℕ, zero, suc, List, [], ◌∷◌, ◌++◌, take, drop, length, refl, sym, ap, ◌∙◌, arith}
use Rattle.std.specs.Prelude.{true, false}
use Rattle.go_typed.specs.declared.node.TypedNode.{TypedNode}
use Rattle.go_typed.specs.Packages.{PackageView}
use Rattle.go_meaning.specs.Values.{Value, Truth, nth, is_true}
use Rattle.go_meaning.specs.Computations.{World, Undecided, Return, end_by, give, looped, spend, choose, in_order, falling}
use Rattle.go_meaning.specs.Doings.{Doing, at, values_of}
use Rattle.go_eval_plans.specs.Programs.{again}
use Rattle.go_eval_machine.specs.declared.task.What.TheVariants as what
use Rattle.go_eval_machine.specs.Rests.{Rest, before, then_rest}
use Rattle.go_eval_machine.specs.Tasks.{parts_of, task_rest, first_above, block_at, round_at}
use Rattle.go_eval_machine.specs.Engines.{asks_part, lays_value, lays_given, works, falls}
use Rattle.go_eval_machine.proofs.Rests.{Same, begins_drop, begins_clause, begins_round, gives_nothing}

pub drop_at : (xs : List Doing) (k : ℕ) → k < length xs → drop k xs ≡ at xs k ∷ drop (suc k) xs
drop_at [] k h = absurd (omega arith)
drop_at (x ∷ xs) zero h = refl
drop_at (x ∷ xs) (suc k) h = drop_at xs k (omega arith)

pub drop_past : (xs : List Doing) (k : ℕ) → length xs ≤ k → drop k xs ≡ []
drop_past [] zero h = refl
drop_past [] (suc k) h = refl
drop_past (x ∷ xs) zero h = absurd (omega arith)
drop_past (x ∷ xs) (suc k) h = drop_past xs k (omega arith)

module _ (p : PackageView) (n : ℕ) (x : TypedNode) (b : ℕ) (r : Rest) (vs : List Value) where
  module _ (e : is_true (first_above b vs) ≡ true) where
    pub both_true : Same (works p x b what.Both n r vs) (asks_part p x 1 n r (take b vs))
    unfolding task_rest
    both_true d f w t = ap (λ q. then_rest (choose q (at (parts_of p n x) 1).value (give (Truth false ∷ []))) r (take b vs) d f w t) e

    pub either_true : Same (works p x b what.Either n r vs) (r.go (take b vs ++ Truth true ∷ []))
    unfolding task_rest before end_by
    either_true d f w t = ap (λ q. then_rest (choose q (give (Truth true ∷ [])) (at (parts_of p n x) 1).value) r (take b vs) d f w t) e

    pub branch_true : Same (works p x b what.Branch n r vs) (asks_part p x 2 n r (take b vs))
    unfolding task_rest
    branch_true d f w t = ap (λ q. then_rest (choose q (at (parts_of p n x) 2).value (at (parts_of p n x) 3).value) r (take b vs) d f w t) e

    pub block_true : (d : ℕ) (f : List Value) (w : World) (t : ℕ) → works p x b what.Block n r vs d f w (suc t) ≡ lays_value p x what.Round 3 n r (take b vs) d f w t
    unfolding task_rest before spend
    block_true d f w t = ap (λ q. then_rest (choose q (spend (looped (at (parts_of p n x) 3).value (round_at (parts_of p n x) (again p n x)))) (give [])) r (take b vs) d f w (suc t)) e
        ∙ begins_round r (take b vs) (length (take b vs)) (at (parts_of p n x) 3).value (round_at (parts_of p n x) (again p n x)) refl d f w t

    pub block_spent : (d : ℕ) (f : List Value) (w : World) → works p x b what.Block n r vs d f w 0 ≡ Undecided w.output
    unfolding task_rest before spend
    block_spent d f w = ap (λ q. then_rest (choose q (spend (looped (at (parts_of p n x) 3).value (round_at (parts_of p n x) (again p n x)))) (give [])) r (take b vs) d f w 0) e

  module _ (e : is_true (first_above b vs) ≡ false) where
    pub both_false : Same (works p x b what.Both n r vs) (r.go (take b vs ++ Truth false ∷ []))
    unfolding task_rest before end_by
    both_false d f w t = ap (λ q. then_rest (choose q (at (parts_of p n x) 1).value (give (Truth false ∷ []))) r (take b vs) d f w t) e

    pub either_false : Same (works p x b what.Either n r vs) (asks_part p x 1 n r (take b vs))
    unfolding task_rest
    either_false d f w t = ap (λ q. then_rest (choose q (give (Truth true ∷ [])) (at (parts_of p n x) 1).value) r (take b vs) d f w t) e

    pub branch_false : Same (works p x b what.Branch n r vs) (asks_part p x 3 n r (take b vs))
    unfolding task_rest
    branch_false d f w t = ap (λ q. then_rest (choose q (at (parts_of p n x) 2).value (at (parts_of p n x) 3).value) r (take b vs) d f w t) e

    pub block_false : Same (works p x b what.Block n r vs) (r.go (take b vs))
    unfolding task_rest
    block_false d f w t = ap (λ q. then_rest (choose q (spend (looped (at (parts_of p n x) 3).value (round_at (parts_of p n x) (again p n x)))) (give [])) r (take b vs) d f w t) e ∙ gives_nothing r (take b vs) d f w t

  pub condition_next : Same (works p x b what.Condition n r vs) (lays_value p x what.Branch 1 n r (take b vs))
  unfolding task_rest
  condition_next = begins_drop r (take b vs) _ (λ us. choose (is_true (nth us 0)) (at (parts_of p n x) 2).value (at (parts_of p n x) 3).value) (λ us d f w t. refl) (at (parts_of p n x) 1).value

  pub turn_true : Same (works p x b (what.Turn true) n r vs) (lays_value p x what.Block 1 n r (take b vs))
  unfolding task_rest
  turn_true = begins_drop r (take b vs) _ (λ us. block_at (parts_of p n x) (again p n x) (nth us 0)) (λ us d f w t. refl) (at (parts_of p n x) 1).value

  pub turn_false : Same (works p x b (what.Turn false) n r vs) (lays_given p x what.Block (Truth true) n r (take b vs))
  unfolding task_rest before end_by
  turn_false = begins_drop r (take b vs) _ (λ us. block_at (parts_of p n x) (again p n x) (nth us 0)) (λ us d f w t. refl) (give (Truth true ∷ []))

  pub round_next : Same (works p x b what.Round n r vs) (lays_value p x what.Again 2 n r (take b vs))
  unfolding task_rest
  round_next = begins_drop r (take b vs) _ (λ us. again p n x) (λ us d f w t. refl) (at (parts_of p n x) 2).value

  module _ (k : ℕ) where
    pub sequence_next : (j : ℕ) → j ≡ suc k → k < length (parts_of p n x) → Same (works p x b (what.Sequence k) n r vs) (lays_value p x (what.Sequence j) k n r (take b vs))
    unfolding task_rest in_order
    sequence_next j e h = rw e (λ d f w t. ap (λ (ys : List Doing). then_rest (in_order (values_of ys)) r (take b vs) d f w t) (drop_at (parts_of p n x) k h)
        ∙ begins_drop r (take b vs) _ (λ us. in_order (values_of (drop (suc k) (parts_of p n x)))) (λ us d1 f1 w1 t1. refl) (at (parts_of p n x) k).value d f w t)

    pub sequence_done : length (parts_of p n x) ≤ k → Same (works p x b (what.Sequence k) n r vs) (r.go (take b vs))
    unfolding task_rest in_order
    sequence_done h d f w t = ap (λ (ys : List Doing). then_rest (in_order (values_of ys)) r (take b vs) d f w t) (drop_past (parts_of p n x) k h) ∙ gives_nothing r (take b vs) d f w t

    pub fall_next : (j : ℕ) → j ≡ suc k → k < length (parts_of p n x) → Same (falls p x b k n r vs) (lays_value p x (what.Fall j) k n r (take b vs))
    unfolding task_rest falling
    fall_next j e h = rw e (λ d f w t. ap (λ (ys : List Doing). then_rest (falling (values_of ys)) r (take b vs) d f w t) (drop_at (parts_of p n x) k h)
        ∙ begins_clause r (take b vs) (length (take b vs)) (at (parts_of p n x) k).value (falling (values_of (drop (suc k) (parts_of p n x)))) refl d f w t)

    pub fall_done : length (parts_of p n x) ≤ k → Same (falls p x b k n r vs) (r.go (take b vs))
    unfolding falling
    fall_done h d f w t = ap (λ (ys : List Doing). then_rest (falling (values_of ys)) r (take b vs) d f w t) (drop_past (parts_of p n x) k h) ∙ gives_nothing r (take b vs) d f w t

  pub returns_next : (us : List Value) → us ≡ drop b vs → Same (works p x b what.Return n r vs) (r.out (take b vs) (Return us))
  unfolding task_rest before end_by
  returns_next us e d f w t = ap (λ ws. r.out (take b vs) (Return ws) d f w t) (sym e)
