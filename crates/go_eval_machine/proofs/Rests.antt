-- Computations that are made of others, and what is left behind their parts.
use Rattle.std.proofs.Common.{◌≡◌, ℕ, zero, suc, List, [], ◌∷◌, ◌++◌, refl, sym, ap, ◌∙◌, take, drop, length}
use Rattle.go_meaning.specs.Values.{Value}
use Rattle.go_meaning.specs.Computations.{World, Ending, Next, Return, Break, Continue, Fallthrough, Panics, Outcome, Ends, Undecided, Comp, go_on, go_round, go_down, leave, end_by, give, then_do, looped, clause, enter, each}
use Rattle.go_eval_machine.specs.Rests.{Rest, go_by, before, behind, then_rest, replacing, adding, round, clause_end, leaving}

-- in every state
abbrev pub Same : Comp → Comp → Type 0
Same c c' = (d : ℕ) (f : List Value) (w : World) (t : ℕ) → c d f w t ≡ c' d f w t

pub same_refl : (c : Comp) → Same c c
same_refl c d f w t = refl

pub same_sym : (c c' : Comp) → Same c c' → Same c' c
same_sym c c' h d f w t = sym (h d f w t)

-- on the way out the two rests are the same
abbrev pub SameOut : (Ending → Comp) → (Ending → Comp) → Type 0
SameOut k k' = ((us : List Value) → Same (k (Return us)) (k' (Return us))) × (Same (k Break) (k' Break) × (Same (k Continue) (k' Continue) × (Same (k Fallthrough) (k' Fallthrough) × ((p : _) → Same (k (Panics p)) (k' (Panics p))))))

-- what a computation goes on to
module _ (k : List Value → Comp) (l m : Ending → Comp) (d : ℕ) where
  on_then : (oc : Outcome) → ((us : List Value) → Same (before (k us) l) (m (Next us))) → SameOut l m →
      go_by (go_on oc (λ us f1 w1 t1. k us d f1 w1 t1)) (λ e f1 w1 t1. l e d f1 w1 t1) ≡ go_by oc (λ e f1 w1 t1. m e d f1 w1 t1)
  unfolding before
  on_then (Ends (Next us) f w t) h o = h us d f w t
  on_then (Ends (Return us) f w t) h o = o.0 us d f w t
  on_then (Ends Break f w t) h o = o.1.0 d f w t
  on_then (Ends Continue f w t) h o = o.1.1.0 d f w t
  on_then (Ends Fallthrough f w t) h o = o.1.1.1.0 d f w t
  on_then (Ends (Panics p) f w t) h o = o.1.1.1.1 p d f w t
  on_then (Undecided o1) h o = refl

pub then_before : (c : Comp) (k : List Value → Comp) (l m : Ending → Comp) → ((us : List Value) → Same (before (k us) l) (m (Next us))) → SameOut l m → Same (before (then_do c k) l) (before c m)
unfolding before then_do
then_before c k l m h o d f w t = on_then k l m d (c d f w t) h o

module _ (k k' : List Value → Comp) (l m : Ending → Comp) (d : ℕ) where
  on_both : (oc : Outcome) → ((us : List Value) → Same (before (k us) l) (before (k' us) m)) → SameOut l m →
      go_by (go_on oc (λ us f1 w1 t1. k us d f1 w1 t1)) (λ e f1 w1 t1. l e d f1 w1 t1) ≡ go_by (go_on oc (λ us f1 w1 t1. k' us d f1 w1 t1)) (λ e f1 w1 t1. m e d f1 w1 t1)
  unfolding before
  on_both (Ends (Next us) f w t) h o = h us d f w t
  on_both (Ends (Return us) f w t) h o = o.0 us d f w t
  on_both (Ends Break f w t) h o = o.1.0 d f w t
  on_both (Ends Continue f w t) h o = o.1.1.0 d f w t
  on_both (Ends Fallthrough f w t) h o = o.1.1.1.0 d f w t
  on_both (Ends (Panics p) f w t) h o = o.1.1.1.1 p d f w t
  on_both (Undecided o1) h o = refl

pub then_both : (c : Comp) (k k' : List Value → Comp) (l m : Ending → Comp) → ((us : List Value) → Same (before (k us) l) (before (k' us) m)) → SameOut l m → Same (before (then_do c k) l) (before (then_do c k') m)
unfolding before then_do
then_both c k k' l m h o d f w t = on_both k k' l m d (c d f w t) h o

pub each_both : (cs : List Comp) (k k' : List Value → Comp) (l m : Ending → Comp) → ((us : List Value) → Same (before (k us) l) (before (k' us) m)) → SameOut l m → Same (before (each cs k) l) (before (each cs k') m)
unfolding each
each_both [] k k' l m h o = h []
each_both (c ∷ cs) k k' l m h o = then_both c _ _ l m (λ us. each_both cs _ _ l m (λ ws. h (us ++ ws)) o) o

-- ---- the values below

pub front : (vs us : List Value) → take (length vs) (vs ++ us) ≡ vs
front [] us = refl
front (v ∷ vs) us = ap (λ ws. v ∷ ws) (front vs us)

pub back : (vs us : List Value) → drop (length vs) (vs ++ us) ≡ us
back [] us = refl
back (v ∷ vs) us = back vs us

pub whole : (vs : List Value) → take (length vs) vs ≡ vs
whole [] = refl
whole (v ∷ vs) = ap (λ ws. v ∷ ws) (whole vs)

pub nothing_more : (vs : List Value) → vs ++ [] ≡ vs
nothing_more [] = refl
nothing_more (v ∷ vs) = ap (λ ws. v ∷ ws) (nothing_more vs)

pub joined : (us vs ws : List Value) → (us ++ vs) ++ ws ≡ us ++ (vs ++ ws)
joined [] vs ws = refl
joined (u ∷ us) vs ws = ap (λ xs. u ∷ xs) (joined us vs ws)

-- behind the least of a base and the length nothing is among the values below the base
pub lowered : (b : ℕ) (vs us : List Value) (k : ℕ) → k ≡ length (take b vs) → take k (vs ++ us) ≡ take b vs
lowered zero vs us k e = rw e refl
lowered (suc b) [] us k e = rw e refl
lowered (suc b) (v ∷ vs) us k e = rw e (ap (λ ws. v ∷ ws) (lowered b vs us (length (take b vs)) refl))

pub same_out : (r : Rest) (vs vs' ws ws' : List Value) → ws ≡ ws' → SameOut (behind r vs ws) (behind r vs' ws')
same_out r vs vs' ws ws' e = (
  λ us d f w t. ap (λ x. r.out x (Return us) d f w t) e,
  (
    (λ d f w t. ap (λ x. r.out x Break d f w t) e),
    (
      (λ d f w t. ap (λ x. r.out x Continue d f w t) e),
      (
        (λ d f w t. ap (λ x. r.out x Fallthrough d f w t) e),
        (λ p d f w t. ap (λ x. r.out x (Panics p) d f w t) e),
      ),
    ),
  ),
)

-- ---- the rules: a computation is begun, and what is behind it is left

pub before_same : (c c' : Comp) (k : Ending → Comp) → Same c c' → Same (before c k) (before c' k)
unfolding before
before_same c c' k h d f w t = ap (λ (o : Outcome). go_by o (λ e f1 w1 t1. k e d f1 w1 t1)) (h d f w t)

-- the first computation, with its operands behind the values
pub begins_then : (r : Rest) (vs : List Value) (b : ℕ) (c : Comp) (k K : List Value → Comp) → b ≡ length vs → ((us : List Value) → Same (K (vs ++ us)) (k us)) →
    Same (then_rest (then_do c k) r vs) (before c (behind (replacing b K r) vs vs))
begins_then r vs b c k K e h = then_before c k (behind r vs vs) (behind (replacing b K r) vs vs)
    (λ us d f w t. before_same (k us) (K (vs ++ us)) (behind r vs vs) (same_sym (K (vs ++ us)) (k us) (h us)) d f w t ∙ ap (λ x. before (K (vs ++ us)) (behind r x x) d f w t) (sym (rw e (front vs us))))
    (same_out_replaced r vs b K (sym (rw e (whole vs))))
  where
    same_out_replaced : (r : Rest) (vs : List Value) (b : ℕ) (K : List Value → Comp) → vs ≡ take b vs → SameOut (behind r vs vs) (behind (replacing b K r) vs vs)
    same_out_replaced r vs b K e = same_out r vs vs vs (take b vs) e

-- all computations, and what is done with all that they give
pub begins_each : (r : Rest) (vs : List Value) (b : ℕ) (cs : List Comp) (k K : List Value → Comp) → b ≡ length vs → ((us : List Value) → Same (K (vs ++ us)) (k us)) →
    Same (then_rest (each cs k) r vs) ((adding b (each cs give) (replacing b K r)).go vs)
unfolding before end_by
begins_each r vs b cs k K e h = each_both cs k give (behind r vs vs) (behind (replacing b K r) vs (take b vs))
    (λ us d f w t. before_same (k us) (K (vs ++ us)) (behind r vs vs) (same_sym (K (vs ++ us)) (k us) (h us)) d f w t ∙ ap (λ x. before (K (vs ++ us)) (behind r x x) d f w t) (sym (rw e (front vs us))))
    (same_out r vs vs vs (take b (take b vs)) (sym (rw e (ap (take (length vs)) (whole vs) ∙ whole vs))))

-- one more of them
pub next_each : (r : Rest) (vs : List Value) (b k : ℕ) (c : Comp) (cs : List Comp) → k ≡ length (take b vs) →
    Same ((adding b (each (c ∷ cs) give) r).go vs) (before c (behind (adding k (each cs give) r) vs vs))
unfolding before end_by each
next_each r vs b k c cs e = then_before c (λ us. each cs (λ ws. give (us ++ ws))) (behind r vs (take b vs)) (behind (adding k (each cs give) r) vs vs)
    (λ us d f w t. each_both cs (λ ws. give (us ++ ws)) give (behind r vs (take b vs)) (behind r (vs ++ us) (take b vs))
    (λ ws d1 f1 w1 t1. ap (λ x. r.go x d1 f1 w1 t1) (sym (joined vs us ws))) (same_out r vs (vs ++ us) (take b vs) (take b vs) refl) d f w t
    ∙ ap (λ x. before (each cs give) (behind r (vs ++ us) x) d f w t) (sym (lowered b vs us k e)))
    (same_out r vs vs (take b vs) (take k vs) (sym (low e)))
  where
    low : k ≡ length (take b vs) → take k vs ≡ take b vs
    low e = ap (take k) (sym (nothing_more vs)) ∙ lowered b vs [] k e

-- and none
pub no_each : (r : Rest) (vs : List Value) (b : ℕ) → Same ((adding b (each [] give) r).go vs) (r.go vs)
unfolding before end_by each
no_each r vs b d f w t = ap (λ x. r.go x d f w t) (nothing_more vs)

-- nothing is given
pub gives_nothing : (r : Rest) (vs : List Value) → Same (then_rest (give []) r vs) (r.go vs)
unfolding before end_by
gives_nothing r vs d f w t = ap (λ x. r.go x d f w t) (nothing_more vs)

-- ---- clauses, loops and bodies

module _ (r : Rest) (vs : List Value) (b : ℕ) (e : b ≡ length vs) (d : ℕ) where
  on_clause : (k : Comp) (oc : Outcome) → go_by (go_down oc (λ f1 w1 t1. k d f1 w1 t1)) (λ e1 f1 w1 t1. behind r vs vs e1 d f1 w1 t1) ≡ go_by oc (λ e1 f1 w1 t1. behind (clause_end b k r) vs vs e1 d f1 w1 t1)
  unfolding before
  on_clause k (Ends (Next us) f w t) = ap (λ x. r.go x d f w t) (nothing_more vs ∙ sym (rw e (front vs us)))
  on_clause k (Ends (Return us) f w t) = ap (λ x. r.out x (Return us) d f w t) (sym (rw e (whole vs)))
  on_clause k (Ends Break f w t) = ap (λ x. r.go x d f w t) (nothing_more vs ∙ sym (rw e (whole vs)))
  on_clause k (Ends Continue f w t) = ap (λ x. r.out x Continue d f w t) (sym (rw e (whole vs)))
  on_clause k (Ends Fallthrough f w t) = ap (λ x. then_rest k r x d f w t) (sym (rw e (whole vs)))
  on_clause k (Ends (Panics p) f w t) = ap (λ x. r.out x (Panics p) d f w t) (sym (rw e (whole vs)))
  on_clause k (Undecided o) = refl

  on_round : (k : Comp) (oc : Outcome) → go_by (go_round oc (λ f1 w1 t1. k d f1 w1 t1)) (λ e1 f1 w1 t1. behind r vs vs e1 d f1 w1 t1) ≡ go_by oc (λ e1 f1 w1 t1. behind (round b k r) vs vs e1 d f1 w1 t1)
  unfolding before
  on_round k (Ends (Next us) f w t) = ap (λ x. then_rest k r x d f w t) (sym (rw e (front vs us)))
  on_round k (Ends (Return us) f w t) = ap (λ x. r.out x (Return us) d f w t) (sym (rw e (whole vs)))
  on_round k (Ends Break f w t) = ap (λ x. r.go x d f w t) (nothing_more vs ∙ sym (rw e (whole vs)))
  on_round k (Ends Continue f w t) = ap (λ x. then_rest k r x d f w t) (sym (rw e (whole vs)))
  on_round k (Ends Fallthrough f w t) = ap (λ x. r.out x Fallthrough d f w t) (sym (rw e (whole vs)))
  on_round k (Ends (Panics p) f w t) = ap (λ x. r.out x (Panics p) d f w t) (sym (rw e (whole vs)))
  on_round k (Undecided o) = refl

  on_leave : (fr : List Value) (oc : Outcome) → go_by (leave fr oc) (λ e1 f1 w1 t1. behind r vs vs e1 (suc d) f1 w1 t1) ≡ go_by oc (λ e1 f1 w1 t1. behind (leaving b fr r) vs vs e1 d f1 w1 t1)
  on_leave fr (Ends (Next us) f w t) = ap (λ x. r.go x (suc d) fr w t) (nothing_more vs ∙ sym (rw e (front vs us)))
  on_leave fr (Ends (Return us) f w t) = ap (λ x. r.go (x ++ us) (suc d) fr w t) (sym (rw e (whole vs)))
  on_leave fr (Ends Break f w t) = ap (λ x. r.go x (suc d) fr w t) (nothing_more vs ∙ sym (rw e (whole vs)))
  on_leave fr (Ends Continue f w t) = ap (λ x. r.go x (suc d) fr w t) (nothing_more vs ∙ sym (rw e (whole vs)))
  on_leave fr (Ends Fallthrough f w t) = ap (λ x. r.go x (suc d) fr w t) (nothing_more vs ∙ sym (rw e (whole vs)))
  on_leave fr (Ends (Panics p) f w t) = ap (λ x. r.out x (Panics p) (suc d) fr w t) (sym (rw e (whole vs)))
  on_leave fr (Undecided o) = refl

pub begins_clause : (r : Rest) (vs : List Value) (b : ℕ) (c k : Comp) → b ≡ length vs → Same (then_rest (clause c k) r vs) (before c (behind (clause_end b k r) vs vs))
unfolding before clause
begins_clause r vs b c k e d f w t = on_clause r vs b e d k (c d f w t)

pub begins_round : (r : Rest) (vs : List Value) (b : ℕ) (c k : Comp) → b ≡ length vs → Same (then_rest (looped c k) r vs) (before c (behind (round b k r) vs vs))
unfolding before looped
begins_round r vs b c k e d f w t = on_round r vs b e d k (c d f w t)

pub begins_body : (r : Rest) (vs : List Value) (b : ℕ) (fr : List Value) (c : Comp) → b ≡ length vs → (d : ℕ) (f : List Value) (w : World) (t : ℕ) → then_rest (enter fr c) r vs (suc d) f w t ≡ before c (behind (leaving b f r) vs vs) d fr w t
unfolding before enter
begins_body r vs b fr c e d f w t = on_leave r vs b e d f (c d fr w t)

-- ---- operands are what stands above all values

module _ (r : Rest) (vs : List Value) (k G : List Value → Comp) (h : (us : List Value) → Same (G us) (k us)) where
  above : (us : List Value) → Same (G (drop (length vs) (vs ++ us))) (k us)
  above us d f w t = ap (λ x. G x d f w t) (back vs us) ∙ h us d f w t

  pub begins_drop : (c : Comp) → Same (then_rest (then_do c k) r vs) (then_rest c (replacing (length vs) (λ ws. G (drop (length vs) ws)) r) vs)
  begins_drop c = begins_then r vs (length vs) c k (λ ws. G (drop (length vs) ws)) refl above

  pub begins_each_drop : (cs : List Comp) → Same (then_rest (each cs k) r vs) ((adding (length vs) (each cs give) (replacing (length vs) (λ ws. G (drop (length vs) ws)) r)).go vs)
  begins_each_drop cs = begins_each r vs (length vs) cs k (λ ws. G (drop (length vs) ws)) refl above

-- a computation that asks for no operands
pub begins_plain : (r : Rest) (vs : List Value) (c : Comp) → Same (then_rest c r vs) ((replacing (length vs) (λ ws. c) r).go vs)
begins_plain r vs c d f w t = ap (λ x. then_rest c r x d f w t) (sym (whole vs))
