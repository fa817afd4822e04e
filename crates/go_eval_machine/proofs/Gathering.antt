-- What steps of parts, one after the other, come to.
use Rattle.std.proofs.Common.{◌≡◌, ◌<◌, ◌≤◌, ℕ, zero, suc, List, [], ◌∷◌, ◌++◌, take, drop, length, refl, sym, ap, ◌∙◌, arith}
use Rattle.std.specs.Prelude.{true, false}
use Rattle.go_typed.specs.declared.node.TypedNode.{TypedNode}
use Rattle.go_typed.specs.Packages.{PackageView}
use Rattle.go_meaning.specs.Values.{Value, Truth, nth}
use Rattle.go_meaning.specs.Computations.{give, end_by, each}
use Rattle.go_meaning.specs.Doings.{Doing, at, values_of, finds_of, stores}
use Rattle.go_eval_machine.specs.declared.task.What.TheVariants as what
use Rattle.go_eval_machine.specs.Rests.{Rest, before, behind, then_rest, adding}
use Rattle.go_eval_machine.specs.Tasks.{parts_of, task_rest, between, clauses_at}
use Rattle.go_eval_machine.specs.Engines.{asks_part, seeks_part, lays_value, lays_given, works}
use Rattle.go_eval_machine.proofs.Rests.{Same, then_before, same_out, begins_drop, next_each, no_each, front, back, whole}

pub taken_within : (b : ℕ) (vs : List Value) → b < length vs → length (take b vs) ≡ b
taken_within zero vs h = refl
taken_within (suc b) [] h = absurd (omega arith)
taken_within (suc b) (v ∷ vs) h = ap suc (taken_within b vs (omega arith))

pub taken_beyond : (b : ℕ) (vs : List Value) → length vs ≤ b → length (take b vs) ≡ length vs
taken_beyond zero [] h = refl
taken_beyond zero (v ∷ vs) h = absurd (omega arith)
taken_beyond (suc b) [] h = refl
taken_beyond (suc b) (v ∷ vs) h = ap suc (taken_beyond b vs (omega arith))

pub drop_taken : (xs : List Doing) (k end : ℕ) → k < end → k < length xs → drop k (take end xs) ≡ at xs k ∷ drop (suc k) (take end xs)
drop_taken [] k end e h = absurd (omega arith)
drop_taken (x ∷ xs) k zero e h = absurd (omega arith)
drop_taken (x ∷ xs) zero (suc end) e h = refl
drop_taken (x ∷ xs) (suc k) (suc end) e h = drop_taken xs k end (omega arith) (omega arith)

pub drop_short : (xs : List Doing) (k end : ℕ) → end ≤ k → drop k (take end xs) ≡ []
drop_short xs zero zero e = refl
drop_short xs (suc k) zero e = refl
drop_short [] zero (suc end) e = refl
drop_short [] (suc k) (suc end) e = refl
drop_short (x ∷ xs) zero (suc end) e = absurd (omega arith)
drop_short (x ∷ xs) (suc k) (suc end) e = drop_short xs k end (omega arith)

pub drop_over : (xs : List Doing) (k end : ℕ) → length xs ≤ k → drop k (take end xs) ≡ []
drop_over xs zero zero h = refl
drop_over xs (suc k) zero h = refl
drop_over [] zero (suc end) h = refl
drop_over [] (suc k) (suc end) h = refl
drop_over (x ∷ xs) zero (suc end) h = absurd (omega arith)
drop_over (x ∷ xs) (suc k) (suc end) h = drop_over xs k end (omega arith)

pub take_all : (xs : List Doing) → take (length xs) xs ≡ xs
take_all [] = refl
take_all (x ∷ xs) = ap (λ ys. x ∷ ys) (take_all xs)

module _ (p : PackageView) (n : ℕ) (x : TypedNode) (b : ℕ) (r : Rest) (vs : List Value) where
  module _ (k end : ℕ) where
    pub values_next : (j low : ℕ) → j ≡ suc k → low ≡ length (take b vs) → k < end → k < length (parts_of p n x) → Same (works p x b (what.Values k end) n r vs) (asks_part p x k n (task_rest p n x low (what.Values j end) r) vs)
    unfolding task_rest
    values_next j low e l h h1 = rw e (λ d f w t. ap (λ (ys : List Doing). (adding b (each (values_of ys) give) r).go vs d f w t) (drop_taken (parts_of p n x) k end h h1)
        ∙ next_each r vs b low (at (parts_of p n x) k).value (values_of (drop (suc k) (take end (parts_of p n x)))) l d f w t)

    pub finds_next : (j low : ℕ) → j ≡ suc k → low ≡ length (take b vs) → k < end → k < length (parts_of p n x) → Same (works p x b (what.Finds k end) n r vs) (seeks_part p x k n (task_rest p n x low (what.Finds j end) r) vs)
    unfolding task_rest
    finds_next j low e l h h1 = rw e (λ d f w t. ap (λ (ys : List Doing). (adding b (each (finds_of ys) give) r).go vs d f w t) (drop_taken (parts_of p n x) k end h h1)
        ∙ next_each r vs b low (at (parts_of p n x) k).find (finds_of (drop (suc k) (take end (parts_of p n x)))) l d f w t)

    values_none : drop k (take end (parts_of p n x)) ≡ [] → Same (works p x b (what.Values k end) n r vs) (r.go vs)
    unfolding task_rest
    values_none e d f w t = ap (λ (ys : List Doing). (adding b (each (values_of ys) give) r).go vs d f w t) e ∙ no_each r vs b d f w t

    finds_none : drop k (take end (parts_of p n x)) ≡ [] → Same (works p x b (what.Finds k end) n r vs) (r.go vs)
    unfolding task_rest
    finds_none e d f w t = ap (λ (ys : List Doing). (adding b (each (finds_of ys) give) r).go vs d f w t) e ∙ no_each r vs b d f w t

    pub values_done : end ≤ k → Same (works p x b (what.Values k end) n r vs) (r.go vs)
    values_done h = values_none (drop_short (parts_of p n x) k end h)

    pub values_over : length (parts_of p n x) ≤ k → Same (works p x b (what.Values k end) n r vs) (r.go vs)
    values_over h = values_none (drop_over (parts_of p n x) k end h)

    pub finds_done : end ≤ k → Same (works p x b (what.Finds k end) n r vs) (r.go vs)
    finds_done h = finds_none (drop_short (parts_of p n x) k end h)

    pub finds_over : length (parts_of p n x) ≤ k → Same (works p x b (what.Finds k end) n r vs) (r.go vs)
    finds_over h = finds_none (drop_over (parts_of p n x) k end h)

  module _ (default : ℕ) where
    pub tag_true : Same (works p x b (what.Tag true default) n r vs) (lays_value p x (what.Clauses 2 default) 1 n r (take b vs))
    unfolding task_rest
    tag_true = begins_drop r (take b vs) _ (λ us. clauses_at (parts_of p n x) 2 default (nth us 0)) (λ us d f w t. refl) (at (parts_of p n x) 1).value

    pub tag_false : Same (works p x b (what.Tag false default) n r vs) (lays_given p x (what.Clauses 2 default) (Truth true) n r (take b vs))
    unfolding task_rest before end_by
    tag_false = begins_drop r (take b vs) _ (λ us. clauses_at (parts_of p n x) 2 default (nth us 0)) (λ us d f w t. refl) (give (Truth true ∷ []))

  -- behind the operands of the targets the values, and then the assignment
  pub assign_next : (m k end : ℕ) → k ≡ length vs → end ≡ length (parts_of p n x) → Same (works p x b (what.Assign m) n r vs) ((task_rest p n x k (what.Values m end) (task_rest p n x b (what.Store m k) r)).go vs)
  unfolding task_rest
  assign_next m k end e e1 = rw (e, e1) (λ d f w t.
      then_before (each (values_of (drop m (parts_of p n x))) give) (λ ws. stores (take m (parts_of p n x)) (drop b vs) ws) (behind r (take b vs) (take b vs))
      (behind (task_rest p n x b (what.Store m (length vs)) r) vs (take (length vs) vs))
      (λ ws d1 f1 w1 t1. ap (λ us. then_rest (stores (take m (parts_of p n x)) (drop b us) ws) r (take b us) d1 f1 w1 t1) (sym (front vs ws))
      ∙ ap (λ zs. then_rest (stores (take m (parts_of p n x)) (between b (length vs) (vs ++ ws)) zs) r (take b (take (length vs) (vs ++ ws))) d1 f1 w1 t1) (sym (back vs ws)))
      (same_out r (take b vs) vs (take b vs) (take b (take (length vs) vs)) (ap (take b) (sym (whole vs)))) d f w t
      ∙ ap (λ (ys : List Doing). before (each (values_of (drop m ys)) give) (behind (task_rest p n x b (what.Store m (length vs)) r) vs (take (length vs) vs)) d f w t) (sym (take_all (parts_of p n x))))
