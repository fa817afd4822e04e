-- Quotients, remainders and shifts of 128-bit words.
use Rattle.std.proofs.Common.{◌≡◌, refl, sym, ap, ◌∙◌, ℕ, zero, suc, ◌*◌, ◌/◌, ◌^◌, ◌≤◌, ℤ, pos, negsuc, neg_ℤ, ◌+ℤ◌, ◌-ℤ◌, true, int_div, arith, subst, to_z, of_z, FitsSigned}
use Rattle.std.specs.Int.{w128, int_shr}
use Rattle.std.proofs.lemmas.Int.{ints, to_z-of_z}
use Rattle.go_ints.specs.declared.kinds.Kind.TheVariants.{Int64}
use Rattle.go_ints.specs.Kinds.{IsWord, wrapped_into}
use Rattle.go_ints.specs.Wrapping.{IsCongruent}
use Rattle.go_ints.proofs.Public.{congruent-add, congruent-sub, congruent_same, wrapped_congruent}
use Rattle.std.proofs.Math.Pow.{pow_mono}
use Rattle.std.proofs.Math.Nat.{div-le_self, div-eq_of_lt, div-one, div-mul-le_self, mul-le-mul_left}
use Rattle.go_values.proofs.Wrapping.{zero_less}

pub quotient_by_minus_one : (a : ℤ) → int_div a (negsuc 0) ≡ pos 0 -ℤ a
quotient_by_minus_one (pos n) = ap (λ k. neg_ℤ (pos k)) (div-one n) ∙ sym (zero_less (pos n))
quotient_by_minus_one (negsuc n) = ap pos (div-one (suc n)) ∙ sym (zero_less (negsuc n))

-- at most half of it
half : (n b : ℕ) → n / suc (suc b) * 2 ≤ n
half n b = omega (arith, mul-le-mul_left {m = 2} {n = suc (suc b)} (n / suc (suc b)) (omega arith), div-mul-le_self n (suc (suc b)))

-- a quotient by what is neither 0 nor -1
pub quotient_fits : (a b : ℤ) → FitsSigned w128 a → (b ≡ negsuc 0 → ⊥) → FitsSigned w128 (int_div a b)
quotient_fits (pos a) (pos b) f h = omega (arith, ints, f.sfits, div-le_self a b)
quotient_fits (pos a) (negsuc b) f h = omega (arith, ints, f.sfits, div-le_self a (suc b))
quotient_fits (negsuc a) (pos b) f h = omega (arith, ints, f.sfits, div-le_self (suc a) b)
quotient_fits (negsuc a) (negsuc zero) f h = absurd (h refl)
quotient_fits (negsuc a) (negsuc (suc b)) f h = omega (arith, ints, f.sfits, half (suc a) b)

-- a word has no bit from 127 on but copies of its sign
pub shifted_far : (a : ℤ) (k : ℕ) → FitsSigned w128 a → 127 ≤ k → int_shr a 127 ≡ int_shr a k
shifted_far (pos a) k f h =
    let more = pow_mono {i = 127} {j = k} h in
    ap pos (div-eq_of_lt {n = a} {m = 2 ^ 127} (omega (arith, ints, f.sfits)) ∙ sym (div-eq_of_lt {n = a} {m = 2 ^ k} (omega (arith, ints, f.sfits, more))))
shifted_far (negsuc a) k f h =
    let more = pow_mono {i = 127} {j = k} h in
    ap negsuc (div-eq_of_lt {n = a} {m = 2 ^ 127} (omega (arith, ints, f.sfits)) ∙ sym (div-eq_of_lt {n = a} {m = 2 ^ k} (omega (arith, ints, f.sfits, more))))

-- ---- numbers that are wrapped into 64 bits first

pub word_fits : (x : ℤ) → IsWord x → FitsSigned w128 x
word_fits x v = omega (arith, ints, v.0, v.1)

sum_fits : (x y : ℤ) → IsWord x → IsWord y → FitsSigned w128 (x +ℤ y)
sum_fits x y v w = omega (arith, ints, v.0, v.1, w.0, w.1)

difference_fits : (x y : ℤ) → IsWord x → IsWord y → FitsSigned w128 (x -ℤ y)
difference_fits x y v w = omega (arith, ints, v.0, v.1, w.0, w.1)

-- what a number wraps to differs from it by a multiple
pub near_word : (x a : ℤ) → FitsSigned w128 a → x ≡ wrapped_into Int64 (to_z w128 (of_z w128 a)) → IsCongruent 64 x a
near_word x a f e = subst (λ z. IsCongruent 64 z a) (sym (e ∙ ap (wrapped_into Int64) (to_z-of_z w128 a f))) (wrapped_congruent 64 true a)

pub near_sum : (x y a b : ℤ) → IsWord x → IsWord y → IsCongruent 64 x a → IsCongruent 64 y b → IsCongruent 64 (to_z w128 (of_z w128 (to_z w128 (of_z w128 x) +ℤ to_z w128 (of_z w128 y)))) (a +ℤ b)
near_sum x y a b v w h g =
    let e : to_z w128 (of_z w128 (to_z w128 (of_z w128 x) +ℤ to_z w128 (of_z w128 y))) ≡ x +ℤ y =
    ap (λ z. to_z w128 (of_z w128 (z +ℤ to_z w128 (of_z w128 y)))) (to_z-of_z w128 x (word_fits x v)) ∙ ap (λ z. to_z w128 (of_z w128 (x +ℤ z))) (to_z-of_z w128 y (word_fits y w)) ∙ to_z-of_z w128 (x +ℤ y) (sum_fits x y v w) in
    subst (λ z. IsCongruent 64 z (a +ℤ b)) (sym e) (congruent-add {x = x} {x' = a} {y = y} {y' = b} h g)

pub near_difference : (x y a b : ℤ) → IsWord x → IsWord y → IsCongruent 64 x a → IsCongruent 64 y b → IsCongruent 64 (to_z w128 (of_z w128 (to_z w128 (of_z w128 x) -ℤ to_z w128 (of_z w128 y)))) (a -ℤ b)
near_difference x y a b v w h g =
    let e : to_z w128 (of_z w128 (to_z w128 (of_z w128 x) -ℤ to_z w128 (of_z w128 y))) ≡ x -ℤ y =
    ap (λ z. to_z w128 (of_z w128 (z -ℤ to_z w128 (of_z w128 y)))) (to_z-of_z w128 x (word_fits x v)) ∙ ap (λ z. to_z w128 (of_z w128 (x -ℤ z))) (to_z-of_z w128 y (word_fits y w)) ∙ to_z-of_z w128 (x -ℤ y) (difference_fits x y v w) in
    subst (λ z. IsCongruent 64 z (a -ℤ b)) (sym e) (congruent-sub {x = x} {x' = a} {y = y} {y' = b} h g)

zero_word : IsWord (pos 0)
zero_word = (omega (arith, ints), omega (arith, ints))

-- the quotient by -1
pub near_opposite : (x a b : ℤ) → FitsSigned w128 b → of_z w128 b ≡ of_z w128 (negsuc 0) → IsWord x → IsCongruent 64 x a → IsCongruent 64 (to_z w128 (of_z w128 (pos 0 -ℤ to_z w128 (of_z w128 x)))) (int_div a b)
near_opposite x a b f e v h =
    let one : b ≡ negsuc 0 = sym (to_z-of_z w128 b f) ∙ ap (to_z w128) e in
    let q : pos 0 -ℤ a ≡ int_div a b = sym (ap (int_div a) one ∙ quotient_by_minus_one a) in
    subst (λ z. IsCongruent 64 (to_z w128 (of_z w128 (pos 0 -ℤ to_z w128 (of_z w128 x)))) z) q (near_difference (pos 0) x (pos 0) a zero_word v (congruent_same refl) h)
