-- The value that `min` or `max` picks.
use Rattle.std.proofs.Common.{◌≡◌, ◌<◌, ◌≤◌, ℕ, zero, suc, List, [], ◌∷◌, refl, sym, ap, ◌∙◌, drop, length, arith}
use Rattle.std.specs.Prelude.{Bool, true, false, if◌then◌else◌, get_or}
use Rattle.std.proofs.lemmas.List.{length-map}
use Rattle.go_grammar.specs.declared.kind.Comparison.{Comparison}
use Rattle.go_meaning.specs.Values.{Value, Truth, nth}
use Rattle.go_meaning.specs.Computations.{World}
use Rattle.go_meaning.specs.Operations.{Deed, Gives, Compare, compared, picked, perform}
use Rattle.go_values.specs.declared.value.Value.{Value as Code}
use Rattle.go_values.specs.Views.{view, views}
use Rattle.go_values.proofs.Public.{nth_within}

truth_given : Deed → Bool
truth_given (Gives (Truth b ∷ vs) w) = b
truth_given d = false

pub nowhere : World
nowhere = record { arrays = []; variables = []; input = []; output = [] }

pub compared_is : (c : Comparison) (u v : Value) (b : Bool) (w : World) → perform (Compare c) (u ∷ v ∷ []) w ≡ Gives (Truth b ∷ []) w → b ≡ compared c u v
unfolding truth_given
compared_is c u v b w e = sym (ap truth_given e)

-- the next one is compared
one_more : (c : Comparison) (v : Value) (us : List Value) (k : ℕ) → k < length us → picked c v (drop k us) ≡ picked c (if compared c (nth us k) v then nth us k else v) (drop (suc k) us)
one_more c v [] k h = absurd (omega (arith, h))
one_more c v (u ∷ us) zero h = refl
one_more c v (u ∷ us) (suc k) h = one_more c v us k (omega (arith, h))

pub picked_taken : (c : Comparison) (v : Value) (us : List Value) (k : ℕ) → k < length us → compared c (nth us k) v ≡ true → picked c v (drop k us) ≡ picked c (nth us k) (drop (suc k) us)
picked_taken c v us k h e = one_more c v us k h ∙ ap (λ b. picked c (if b then nth us k else v) (drop (suc k) us)) e

pub picked_kept : (c : Comparison) (v : Value) (us : List Value) (k : ℕ) → k < length us → compared c (nth us k) v ≡ false → picked c v (drop k us) ≡ picked c v (drop (suc k) us)
picked_kept c v us k h e = one_more c v us k h ∙ ap (λ b. picked c (if b then nth us k else v) (drop (suc k) us)) e

-- behind the last one
pub picked_all : (c : Comparison) (v : Value) (us : List Value) (k : ℕ) → length us ≤ k → picked c v (drop k us) ≡ v
picked_all c v [] zero h = refl
picked_all c v [] (suc k) h = refl
picked_all c v (u ∷ us) zero h = absurd (omega (arith, h))
picked_all c v (u ∷ us) (suc k) h = picked_all c v us k (omega (arith, h))

-- The code compares values of the program.
module _ (c : Comparison) (vs : List Code) (best place : ℕ) (x y : Code) (hx : x ≡ get_or vs place x) (hy : y ≡ get_or vs best y) (within : place < length vs) (before : best < place) where
  told : (i : ℕ) (z : Code) → z ≡ get_or vs i z → i < length vs → view z ≡ nth (views vs) i
  told i z e h = ap view e ∙ nth_within vs i z h

  many : length (views vs) ≡ length vs
  many = length-map vs view

  pub next_taken : compared c (view x) (view y) ≡ true → picked c (nth (views vs) best) (drop place (views vs)) ≡ picked c (nth (views vs) place) (drop (suc place) (views vs))
  next_taken e = picked_taken c (nth (views vs) best) (views vs) place (omega (arith, many, within)) (sym (ap (λ u. compared c u (view y)) (told place x hx within) ∙ ap (λ u. compared c (nth (views vs) place) u) (told best y hy (omega (arith, within, before)))) ∙ e)

  pub next_kept : compared c (view x) (view y) ≡ false → picked c (nth (views vs) best) (drop place (views vs)) ≡ picked c (nth (views vs) best) (drop (suc place) (views vs))
  next_kept e = picked_kept c (nth (views vs) best) (views vs) place (omega (arith, many, within)) (sym (ap (λ u. compared c u (view y)) (told place x hx within) ∙ ap (λ u. compared c (nth (views vs) place) u) (told best y hy (omega (arith, within, before)))) ∙ e)
