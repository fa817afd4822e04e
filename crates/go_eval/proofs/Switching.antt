-- What clauses of switches come to.
use Rattle.std.proofs.Common.{◌≡◌, ◌<◌, ◌≤◌, ℕ, zero, suc, List, [], ◌∷◌, ◌++◌, take, drop, length, refl, sym, ap, ◌∙◌}
use Rattle.std.specs.Prelude.{Bool, true, false, slice_set}
use Rattle.go_grammar.specs.declared.kind.Comparison.TheVariants.{Equal}
use Rattle.go_typed.specs.declared.node.TypedNode.{TypedNode}
use Rattle.go_typed.specs.Packages.{PackageView}
use Rattle.go_meaning.specs.Values.{Value, Truth, nth, is_true, same_value}
use Rattle.go_meaning.specs.Computations.{World, Comp, end_by, give, then_do, one, choose, falling}
use Rattle.go_meaning.specs.Doings.{Doing, at, values_of}
use Rattle.go_meaning.specs.Doings as doings
use Rattle.go_meaning.specs.Doings.{selected}
use Rattle.go_meaning.specs.Operations.{operate}
use Rattle.go_eval_machine.specs.declared.task.What.TheVariants as what
use Rattle.go_eval_machine.specs.Rests.{Rest, before, then_rest}
use Rattle.go_eval_machine.specs.Tasks.{parts_of, task_rest, first_above, between, clauses_at, clause_at, match_at, matches_at}
use Rattle.go_eval_machine.specs.Engines.{lays_value, works, falls}
use Rattle.go_eval_machine.proofs.Public.{Same, begins_then, front, back, drop_taken, drop_at, drop_past, begins_both, between_is, above_is}
use Rattle.go_eval_machine.specs.Tests.{tests}

module _ (p : PackageView) (n : ℕ) (x : TypedNode) (b : ℕ) (r : Rest) (vs : List Value) where
  module _ (next default : ℕ) where
    abbrev tag : Value
    tag = first_above b vs

    abbrev other : Comp
    other = falling (values_of (drop default (parts_of p n x)))

    abbrev with_tag : List Value
    with_tag = take b vs ++ tag ∷ []

    pub clauses_done : length (parts_of p n x) ≤ next → Same (works p x b (what.Clauses next default) n r vs) (falls p x b default n r vs)
    unfolding task_rest selected
    clauses_done h d f w t = ap (λ (ys : List Doing). then_rest (selected tag other ys) r (take b vs) d f w t) (drop_past (parts_of p n x) next h)

    module _ (low k : ℕ) (el : low ≡ length (take b vs)) (ek : k ≡ length with_tag) (h : next < length (parts_of p n x)) where
      found_front : take low with_tag ≡ take b vs
      found_front = rw el (front (take b vs) (tag ∷ []))

      found_tag : drop low with_tag ≡ tag ∷ []
      found_tag = rw el (back (take b vs) (tag ∷ []))

      -- by the clauses from this one on, and what its test gave
      abbrev chosen : List Doing → Value → Value → Comp
      chosen ys v q = choose (is_true q) (falling (values_of ys)) (clauses_at (parts_of p n x) (suc next) default v)

      chosen_so : (us : List Value) → Same (clause_at (parts_of p n x) next default (nth (between low k (with_tag ++ us)) 0) (nth (drop k (with_tag ++ us)) 0)) (chosen (at (parts_of p n x) next ∷ drop (suc next) (parts_of p n x)) tag (nth us 0))
      chosen_so us d f w t = ap (λ (ws : List Value). chosen (drop next (parts_of p n x)) (nth ws 0) (nth (drop k (with_tag ++ us)) 0) d f w t) (between_is with_tag us low k ek ∙ found_tag)
          ∙ (ap (λ (ws : List Value). chosen (drop next (parts_of p n x)) tag (nth ws 0) d f w t) (above_is with_tag us k ek)
          ∙ ap (λ (ys : List Doing). chosen ys tag (nth us 0) d f w t) (drop_at (parts_of p n x) next h))

      pub clauses_next : Same (works p x b (what.Clauses next default) n r vs) (tests p x next low n (task_rest p n x low (what.Clause next default k) r) with_tag)
      unfolding task_rest selected
      clauses_next d f w t = ap (λ (ys : List Doing). then_rest (selected tag other ys) r (take b vs) d f w t) (drop_at (parts_of p n x) next h)
          ∙ (ap (λ (us : List Value). then_rest (one ((at (parts_of p n x) next).test (tag ∷ [])) (chosen (at (parts_of p n x) next ∷ drop (suc next) (parts_of p n x)) tag)) r us d f w t) (sym found_front)
          ∙ (begins_both r with_tag low k ((at (parts_of p n x) next).test (tag ∷ [])) (λ us. chosen (at (parts_of p n x) next ∷ drop (suc next) (parts_of p n x)) tag (nth us 0)) (λ ws. clause_at (parts_of p n x) next default (nth (between low k ws) 0) (nth (drop k ws) 0)) ek chosen_so d f w t
          ∙ ap (λ (us : List Value). then_rest ((at (parts_of p n x) next).test us) (task_rest p n x low (what.Clause next default k) r) with_tag d f w t) (sym found_tag)))

    module _ (k : ℕ) where
      pub clause_true : is_true (first_above k vs) ≡ true → Same (works p x b (what.Clause next default k) n r vs) (falls p x b next n r (take k vs))
      unfolding task_rest
      clause_true e d f w t = ap (λ (q : Bool). then_rest (choose q (falling (values_of (drop next (parts_of p n x)))) (clauses_at (parts_of p n x) (suc next) default (nth (between b k vs) 0))) r (take b (take k vs)) d f w t) e

      pub clause_false : (j : ℕ) → j ≡ suc next → is_true (first_above k vs) ≡ false → Same (works p x b (what.Clause next default k) n r vs) (works p x b (what.Clauses j default) n r (take k vs))
      unfolding task_rest
      clause_false j ej e d f w t = ap (λ (q : Bool). then_rest (choose q (falling (values_of (drop next (parts_of p n x)))) (clauses_at (parts_of p n x) (suc next) default (nth (between b k vs) 0))) r (take b (take k vs)) d f w t) e
          ∙ ap (λ (i : ℕ). then_rest (clauses_at (parts_of p n x) i default (nth (between b k vs) 0)) r (take b (take k vs)) d f w t) (sym ej)

  module _ (next end tag : ℕ) where
    pub matches_none : drop next (take end (parts_of p n x)) ≡ [] → Same (works p x b (what.Matches next end tag) n r vs) (r.go (take b vs ++ Truth false ∷ []))
    unfolding task_rest before end_by doings.matches
    matches_none e d f w t = ap (λ (ys : List Doing). then_rest (doings.matches (nth (take b vs) tag) (values_of ys)) r (take b vs) d f w t) e

    pub matches_next : next < end → next < length (parts_of p n x) → Same (works p x b (what.Matches next end tag) n r vs) (lays_value p x (what.Match next end tag) next n r (take b vs))
    unfolding task_rest doings.matches
    matches_next h h1 d f w t = ap (λ (ys : List Doing). then_rest (doings.matches (nth (take b vs) tag) (values_of ys)) r (take b vs) d f w t) (drop_taken (parts_of p n x) next end h h1)
        ∙ begins_then r (take b vs) (length (take b vs)) (at (parts_of p n x) next).value (λ us. match_at (parts_of p n x) next end (nth (take b vs) tag) (nth us 0)) (λ ws. match_at (parts_of p n x) next end (nth (take (length (take b vs)) ws) tag) (first_above (length (take b vs)) ws)) refl
        (λ us d1 f1 w1 t1. ap (λ (ws : List Value). match_at (parts_of p n x) next end (nth ws tag) (first_above (length (take b vs)) (take b vs ++ us)) d1 f1 w1 t1) (front (take b vs) us)
        ∙ ap (λ (ws : List Value). match_at (parts_of p n x) next end (nth (take b vs) tag) (nth ws 0) d1 f1 w1 t1) (back (take b vs) us)) d f w t

    -- what the comparison chooses
    abbrev decided : Bool → Comp
    decided q = choose q (give (Truth true ∷ [])) (matches_at (parts_of p n x) (suc next) end (nth (take b vs) tag))

    compared_so : Same (works p x b (what.Match next end tag) n r vs) (then_rest (decided (same_value (nth (take b vs) tag) (first_above b vs))) r (take b vs))
    unfolding task_rest before then_do operate
    compared_so d f w t = refl

    pub match_true : same_value (nth (take b vs) tag) (first_above b vs) ≡ true → Same (works p x b (what.Match next end tag) n r vs) (r.go (take b vs ++ Truth true ∷ []))
    unfolding before end_by
    match_true e d f w t = compared_so d f w t ∙ ap (λ (q : Bool). then_rest (decided q) r (take b vs) d f w t) e

    pub match_false : (j : ℕ) → j ≡ suc next → same_value (nth (take b vs) tag) (first_above b vs) ≡ false → Same (works p x b (what.Match next end tag) n r vs) (works p x b (what.Matches j end tag) n r vs)
    unfolding task_rest
    match_false j ej e d f w t = compared_so d f w t ∙ (ap (λ (q : Bool). then_rest (decided q) r (take b vs) d f w t) e
        ∙ ap (λ (i : ℕ). then_rest (matches_at (parts_of p n x) i end (nth (take b vs) tag)) r (take b vs) d f w t) (sym ej))

-- the first value is taken out, and the others below the base stay
pub take_set : (vs : List Value) (b : ℕ) (v : Value) → take b (slice_set vs b v) ≡ take b vs
take_set [] zero v = refl
take_set [] (suc b) v = refl
take_set (u ∷ us) zero v = refl
take_set (u ∷ us) (suc b) v = ap (λ ws. u ∷ ws) (take_set us b v)
