-- The frames of calls.
use Rattle.std.proofs.Common.{◌≡◌, ℕ, zero, suc, ◌≤◌, List, [], ◌∷◌, drop, length, refl, sym, ap, ◌∙◌, Option, Some, None, arith}
use Rattle.std.specs.Prelude.{slice_get, slice_set}
use Rattle.go_meaning.specs.Values.{Value, NilFunction, nth}
use Rattle.go_meaning.specs.Meaning.{with_arguments}

drop_drop : (us : List Value) (j : ℕ) → drop 1 (drop j us) ≡ drop (suc j) us
drop_drop [] zero = refl
drop_drop [] (suc j) = refl
drop_drop (u ∷ us) zero = refl
drop_drop (u ∷ us) (suc j) = drop_drop us j

nth_drop : (us : List Value) (j : ℕ) → nth (drop j us) 0 ≡ nth us j
nth_drop [] zero = refl
nth_drop [] (suc j) = refl
nth_drop (u ∷ us) zero = refl
nth_drop (u ∷ us) (suc j) = nth_drop us j

drop_set : (us : List Value) (j : ℕ) (v : Value) → drop (suc j) (slice_set us j v) ≡ drop (suc j) us
drop_set [] j v = refl
drop_set (u ∷ us) zero v = refl
drop_set (u ∷ us) (suc j) v = drop_set us j v

drop_parameter : (ps : List (Option ℕ)) (i : ℕ) (o : Option ℕ) → slice_get ps i ≡ Some o → drop i ps ≡ o ∷ drop (suc i) ps
drop_parameter [] i o e = absurd cc
drop_parameter (p ∷ ps) zero o e = let s : p ≡ o = cc in ap (λ (x : Option ℕ). x ∷ ps) s
drop_parameter (p ∷ ps) (suc i) o e = drop_parameter ps i o e

no_parameters : (ps : List (Option ℕ)) (i : ℕ) → length ps ≤ i → drop i ps ≡ []
no_parameters [] zero h = refl
no_parameters [] (suc i) h = refl
no_parameters (p ∷ ps) zero h = absurd (omega arith)
no_parameters (p ∷ ps) (suc i) h = no_parameters ps i (omega arith)

module _ (ps : List (Option ℕ)) (j : ℕ) (us fr : List Value) where
  -- a parameter without a local
  pub unnamed : with_arguments (None ∷ ps) (drop j us) fr ≡ with_arguments ps (drop (suc j) us) fr
  unnamed = ap (λ (vs : List Value). with_arguments ps vs fr) (drop_drop us j)

  -- and one with a local, which takes its argument
  pub named : (n : ℕ) (us1 fr1 : List Value) → fr1 ≡ slice_set fr n (nth us j) → us1 ≡ slice_set us j NilFunction → with_arguments (Some n ∷ ps) (drop j us) fr ≡ with_arguments ps (drop (suc j) us1) fr1
  named n us1 fr1 f u =
      ap (λ (v : Value). with_arguments ps (drop 1 (drop j us)) (slice_set fr n v)) (nth_drop us j)
      ∙ (ap (λ (gr : List Value). with_arguments ps (drop 1 (drop j us)) gr) (sym f)
      ∙ ap (λ (vs : List Value). with_arguments ps vs fr1) (drop_drop us j ∙ (sym (drop_set us j NilFunction) ∙ ap (drop (suc j)) (sym u))))

-- one more of the parameters
pub one_given : (ps : List (Option ℕ)) (i k : ℕ) (o : Option ℕ) (us us1 fr fr1 : List Value) → slice_get ps i ≡ Some o → k ≡ suc i →
    ((qs : List (Option ℕ)) → with_arguments (o ∷ qs) (drop k us) fr ≡ with_arguments qs (drop (suc k) us1) fr1) →
    with_arguments (drop i ps) (drop k us) fr ≡ with_arguments (drop k ps) (drop (suc k) us1) fr1
one_given ps i k o us us1 fr fr1 e s h =
    ap (λ (qs : List (Option ℕ)). with_arguments qs (drop k us) fr) (drop_parameter ps i o e)
    ∙ (h (drop (suc i) ps) ∙ ap (λ (j : ℕ). with_arguments (drop j ps) (drop (suc k) us1) fr1) (sym s))

pub all_given : (ps : List (Option ℕ)) (i : ℕ) (us fr : List Value) → length ps ≤ i → with_arguments (drop i ps) us fr ≡ fr
all_given ps i us fr h = ap (λ (qs : List (Option ℕ)). with_arguments qs us fr) (no_parameters ps i h)
