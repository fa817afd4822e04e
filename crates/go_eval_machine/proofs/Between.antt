-- Computations whose operands stand between two places among the values.
use Rattle.std.proofs.Common.{◌≡◌, ℕ, zero, suc, List, [], ◌∷◌, ◌++◌, refl, sym, ap, ◌∙◌, take, drop, length}
use Rattle.go_meaning.specs.Values.{Value}
use Rattle.go_meaning.specs.Computations.{Comp, then_do}
use Rattle.go_eval_machine.specs.Rests.{Rest, behind, then_rest, replacing_both}
use Rattle.go_eval_machine.specs.Tasks.{between}
use Rattle.go_eval_machine.proofs.Rests.{Same, SameOut, same_sym, then_before, before_same, same_out, front, back}

-- the first computation, with what it gives behind the values, of which those above the base are operands
pub begins_both : (r : Rest) (vs : List Value) (b k : ℕ) (c : Comp) (K G : List Value → Comp) → k ≡ length vs → ((us : List Value) → Same (G (vs ++ us)) (K us)) →
    Same (then_rest (then_do c K) r (take b vs)) (then_rest c (replacing_both b k G r) vs)
begins_both r vs b k c K G e h = then_before c K (behind r (take b vs) (take b vs)) (behind (replacing_both b k G r) vs vs)
    (λ us d f w t. before_same (K us) (G (vs ++ us)) (behind r (take b vs) (take b vs)) (same_sym (G (vs ++ us)) (K us) (h us)) d f w t
    ∙ ap (λ x. then_rest (G (vs ++ us)) r (take b x) d f w t) (sym (rw e (front vs us))))
    same_outs
  where
    same_outs : SameOut (behind r (take b vs) (take b vs)) (behind (replacing_both b k G r) vs vs)
    same_outs = same_out r (take b vs) vs (take b vs) (take b vs) refl

-- the operands are those from before, and what was given stands behind them
pub between_is : (vs us : List Value) (b k : ℕ) → k ≡ length vs → between b k (vs ++ us) ≡ drop b vs
between_is vs us b k e = ap (drop b) (rw e (front vs us))

pub above_is : (vs us : List Value) (k : ℕ) → k ≡ length vs → drop k (vs ++ us) ≡ us
above_is vs us k e = rw e (back vs us)

pub take_twice : (b : ℕ) (vs : List Value) → take b (take b vs) ≡ take b vs
take_twice zero vs = refl
take_twice (suc b) [] = refl
take_twice (suc b) (v ∷ vs) = ap (λ us. v ∷ us) (take_twice b vs)
