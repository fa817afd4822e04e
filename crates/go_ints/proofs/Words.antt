-- 128-bit words: what their operators leave of a product or a shift, and their bits.
use Rattle.std.proofs.Common.{int_div, ◌≡◌, refl, sym, ap, subst, ◌∙◌, ℕ, suc, ◌+◌, ◌-◌, ◌*◌, ◌/◌, ◌%◌, ◌^◌, ◌<◌, ◌≤◌, ℤ, pos, ◌+ℤ◌, ◌*ℤ◌, arith, to_z, of_z, FitsSigned}
use Rattle.std.proofs.lemmas.Int.{ints, to_z-of_z, to_z_pos, of_z-to_z}
use Rattle.std.proofs.lemmas.Nat.{pow_pos, pow-add, div-add-mod', and-not, and_comm, and_le_l, and_le_r, shr_le}
use Rattle.std.proofs.Math.Pow.{pow_mono}
use Rattle.std.proofs.Math.Nat.{mod-lt, mul_assoc, div-le_self, div-eq_of_lt}
use Rattle.std.proofs.Math.IntN.{negsuc}
use Rattle.std.specs.Int.{w128, int_bit_and, int_bit_or, int_bit_xor, int_shl, int_shr, int_wrapping_mul}
use Rattle.std.specs.Int.Bits.{bit_and, bit_or, bit_xor, or_add_and, xor_add_and, or_lt, xor_lt}
use borrow.Author.Differences.{up, down, fits_in, read_fits, same_in, same_out, sum_is_lem, product_is}
use Rattle.go_ints.specs.Wrapping.{IsCongruent}
use Rattle.go_ints.specs.Kinds.{IsWord}
use Rattle.go_ints.specs.Bitwise.{complement, bitwise_and, bitwise_or, bitwise_xor}
use Rattle.go_ints.proofs.Wrapped.{differ_by, congruent_same, congruent_sym, congruent_trans, congruent-mul}

-- a multiple of more bits is a multiple of fewer
pub narrow : (more bits : ℕ) (x y : ℤ) → IsCongruent (more + bits) x y → IsCongruent bits x y
narrow more bits x y h =
    let times : (i : ℕ) → i * 2 ^ (more + bits) ≡ i * 2 ^ more * 2 ^ bits = λ (i : ℕ). ap (λ m. i * m) (pow-add 2 more bits) ∙ sym (mul_assoc i (2 ^ more) (2 ^ bits)) in
    let k = h.under * 2 ^ more in
    differ_by (h.over * 2 ^ more) k (subst (λ m. x +ℤ pos m ≡ y +ℤ pos (k * 2 ^ bits)) (times h.over) (subst (λ m. x +ℤ pos (h.over * 2 ^ (more + bits)) ≡ y +ℤ pos m) (times h.under) h.differ))

-- the low 128 bits of n
pub low_word : (n : ℕ) → IsCongruent 128 (pos (n % 2 ^ 128)) (pos n)
low_word n = differ_by (n / 2 ^ 128) 0 (omega (arith, same_in, same_out, sum_is_lem, div-add-mod' n (2 ^ 128)))

-- 128 bits, read as a signed number
pub read_word : (n : ℕ) → n < 2 ^ 128 → IsCongruent 128 (to_z w128 n) (pos n)
read_word n h = by (to_z w128 n) (of_z-to_z w128 n h) (omega (arith, fits_in, read_fits w128 n))
  where
    by : (z : ℤ) → of_z w128 z ≡ n → FitsSigned w128 z → IsCongruent 128 z (pos n)
    by (pos m) e f = differ_by 0 0 (omega (arith, ints, e))
    by (negsuc m) e f = differ_by 1 0 (omega (arith, ints, e, f.sfits))

pub word_below : (a : ℤ) → FitsSigned w128 a → of_z w128 a < 2 ^ 128
word_below (pos n) f = omega (arith, f.sfits)
word_below (negsuc n) f = omega arith

pub word_of : (a : ℤ) → FitsSigned w128 a → IsCongruent 128 (pos (of_z w128 a)) a
word_of a f = congruent_sym (subst (λ x. IsCongruent 128 x (pos (of_z w128 a))) (to_z-of_z w128 a f) (read_word (of_z w128 a) (word_below a f)))

-- what 128 bits keep of n
kept : (n : ℕ) → IsCongruent 128 (to_z w128 (n % 2 ^ 128)) (pos n)
kept n = congruent_trans (read_word (n % 2 ^ 128) (mod-lt n (pow_pos 128))) (low_word n)

-- a product of 128 bits
pub product_word : (a b : ℤ) → FitsSigned w128 a → FitsSigned w128 b → IsCongruent 128 (int_wrapping_mul w128 a b) (a *ℤ b)
product_word a b f g = congruent_trans (kept (of_z w128 a * of_z w128 b)) (congruent-mul {x = pos (of_z w128 a)} {y = pos (of_z w128 b)} (word_of a f) (word_of b g))

-- a shift of 128 bits to the left
pub shifted_word : (a : ℤ) (k : ℕ) → FitsSigned w128 a → IsCongruent 128 (int_shl w128 a k) (a *ℤ pos (2 ^ k))
shifted_word a k f = congruent_trans (kept (of_z w128 a * 2 ^ k)) (congruent-mul {x = pos (of_z w128 a)} {y = pos (2 ^ k)} (word_of a f) (congruent_same refl))

-- a shift to the left by the width or more leaves no bit
pub shifted_out : (bits k : ℕ) (a : ℤ) → bits ≤ k → IsCongruent bits (pos 0) (a *ℤ pos (2 ^ k))
shifted_out bits k a h =
    let d = k - bits in
    let sum : k ≡ d + bits = omega arith in
    let split : 2 ^ k ≡ 2 ^ d * 2 ^ bits = ap (λ i. 2 ^ i) sum ∙ pow-add 2 d bits in
    let high : (n : ℕ) → n * 2 ^ k ≡ n * 2 ^ d * 2 ^ bits = λ (n : ℕ). ap (λ m. n * m) split ∙ sym (mul_assoc n (2 ^ d) (2 ^ bits)) in
    differ_by (up a * 2 ^ d) (down a * 2 ^ d) (omega (arith, same_in, sum_is_lem, product_is, high (up a), high (down a)))

-- ---- bits: a signed word's operators are those of whole numbers

-- a & !b, for natural numbers of 128 bits
lacking : (a b : ℕ) → a < 2 ^ 128 → b < 2 ^ 128 → bit_and a (2 ^ 128 - suc b) + bit_and a b ≡ a
lacking a b p q =
    let e = and-not 128 b a q p in
    let turned : bit_and a (2 ^ 128 - 1 - b) + bit_and a b ≡ a = rw (and_comm a (2 ^ 128 - 1 - b), and_comm a b) e in
    let is : 2 ^ 128 - 1 - b ≡ 2 ^ 128 - suc b = omega arith in
    subst (λ x. bit_and a x + bit_and a b ≡ a) is turned

-- the bits of !a
pub complement_word : (a : ℤ) → FitsSigned w128 a → 2 ^ 128 - 1 - of_z w128 a ≡ of_z w128 (complement a)
complement_word (pos n) f = omega (arith, f.sfits)
complement_word (negsuc n) f = omega (arith, f.sfits)

pub complement_fits : (a : ℤ) → FitsSigned w128 a → FitsSigned w128 (complement a)
complement_fits (pos n) f = record { sfits = f.sfits }
complement_fits (negsuc n) f = record { sfits = f.sfits }

-- 128 bits whose highest is set, as a negative number
high_word : (m n : ℕ) → n < 2 ^ 127 → m + suc n ≡ 2 ^ 128 → to_z w128 m ≡ negsuc n
high_word m n h e =
    let is : of_z w128 (negsuc n) ≡ m = omega arith in
    subst (λ x. to_z w128 x ≡ negsuc n) is (to_z-of_z w128 (negsuc n) (record { sfits = h }))

pub and_word : (a b : ℤ) → FitsSigned w128 a → FitsSigned w128 b → int_bit_and w128 a b ≡ bitwise_and a b
and_word (pos a) (pos b) f g = to_z_pos w128 (bit_and a b) (omega (arith, and_le_l a b, f.sfits))
and_word (pos a) (negsuc b) f g =
    let l = lacking a b (omega (arith, f.sfits)) (omega (arith, g.sfits)) in
    let is : bit_and a (2 ^ 128 - suc b) ≡ a - bit_and a b = omega arith in
    ap (to_z w128) is ∙ to_z_pos w128 (a - bit_and a b) (omega (arith, f.sfits))
and_word (negsuc a) (pos b) f g =
    let l = lacking b a (omega (arith, g.sfits)) (omega (arith, f.sfits)) in
    let is : bit_and (2 ^ 128 - suc a) b ≡ b - bit_and b a = rw (and_comm (2 ^ 128 - suc a) b) (omega arith) in
    ap (to_z w128) is ∙ to_z_pos w128 (b - bit_and b a) (omega (arith, g.sfits))
and_word (negsuc a) (negsuc b) f g =
    let l = lacking (2 ^ 128 - suc a) b (omega arith) (omega (arith, g.sfits)) in
    let k = lacking b a (omega (arith, g.sfits)) (omega (arith, f.sfits)) in
    let c = and_comm (2 ^ 128 - suc a) b in
    let sum = or_add_and a b in
    let d = and_comm a b in
    high_word (bit_and (2 ^ 128 - suc a) (2 ^ 128 - suc b)) (bit_or a b) (or_lt 127 a b f.sfits g.sfits) (omega (arith, f.sfits, g.sfits))

pub or_word : (a b : ℤ) → FitsSigned w128 a → FitsSigned w128 b → int_bit_or w128 a b ≡ bitwise_or a b
or_word (pos a) (pos b) f g = to_z_pos w128 (bit_or a b) (or_lt 127 a b f.sfits g.sfits)
or_word (pos a) (negsuc b) f g =
    let l = lacking a b (omega (arith, f.sfits)) (omega (arith, g.sfits)) in
    let sum = or_add_and a (2 ^ 128 - suc b) in
    let c = and_comm a b in
    high_word (bit_or a (2 ^ 128 - suc b)) (b - bit_and b a) (omega (arith, g.sfits)) (omega (arith, f.sfits, g.sfits, and_le_r a b))
or_word (negsuc a) (pos b) f g =
    let l = lacking b a (omega (arith, g.sfits)) (omega (arith, f.sfits)) in
    let sum = or_add_and (2 ^ 128 - suc a) b in
    let d = and_comm (2 ^ 128 - suc a) b in
    let c = and_comm a b in
    high_word (bit_or (2 ^ 128 - suc a) b) (a - bit_and a b) (omega (arith, f.sfits)) (omega (arith, f.sfits, g.sfits, and_le_l a b))
or_word (negsuc a) (negsuc b) f g =
    let l = lacking (2 ^ 128 - suc a) b (omega arith) (omega (arith, g.sfits)) in
    let k = lacking b a (omega (arith, g.sfits)) (omega (arith, f.sfits)) in
    let e = and_comm (2 ^ 128 - suc a) b in
    let c = and_comm a b in
    let sum = or_add_and (2 ^ 128 - suc a) (2 ^ 128 - suc b) in
    high_word (bit_or (2 ^ 128 - suc a) (2 ^ 128 - suc b)) (bit_and a b) (omega (arith, and_le_l a b, f.sfits)) (omega (arith, f.sfits, g.sfits, and_le_l a b))

pub xor_word : (a b : ℤ) → FitsSigned w128 a → FitsSigned w128 b → int_bit_xor w128 a b ≡ bitwise_xor a b
xor_word (pos a) (pos b) f g = to_z_pos w128 (bit_xor a b) (xor_lt 127 a b f.sfits g.sfits)
xor_word (pos a) (negsuc b) f g =
    let l = lacking a b (omega (arith, f.sfits)) (omega (arith, g.sfits)) in
    let sum = xor_add_and a (2 ^ 128 - suc b) in
    let low = xor_add_and a b in
    high_word (bit_xor a (2 ^ 128 - suc b)) (bit_xor a b) (xor_lt 127 a b f.sfits g.sfits) (omega (arith, f.sfits, g.sfits))
xor_word (negsuc a) (pos b) f g =
    let l = lacking b a (omega (arith, g.sfits)) (omega (arith, f.sfits)) in
    let sum = xor_add_and (2 ^ 128 - suc a) b in
    let low = xor_add_and a b in
    let d = and_comm (2 ^ 128 - suc a) b in
    let c = and_comm a b in
    high_word (bit_xor (2 ^ 128 - suc a) b) (bit_xor a b) (xor_lt 127 a b f.sfits g.sfits) (omega (arith, f.sfits, g.sfits))
xor_word (negsuc a) (negsuc b) f g =
    let l = lacking (2 ^ 128 - suc a) b (omega arith) (omega (arith, g.sfits)) in
    let k = lacking b a (omega (arith, g.sfits)) (omega (arith, f.sfits)) in
    let e = and_comm (2 ^ 128 - suc a) b in
    let c = and_comm a b in
    let sum = xor_add_and (2 ^ 128 - suc a) (2 ^ 128 - suc b) in
    let low = xor_add_and a b in
    let is : bit_xor (2 ^ 128 - suc a) (2 ^ 128 - suc b) ≡ bit_xor a b = omega (arith, f.sfits, g.sfits) in
    ap (to_z w128) is ∙ to_z_pos w128 (bit_xor a b) (xor_lt 127 a b f.sfits g.sfits)

-- ---- quotients and shifts of words

pub quotient_fits : (a b : ℤ) → IsWord a → FitsSigned w128 (int_div a b)
quotient_fits (pos a) (pos b) w = omega (arith, ints, div-le_self a b)
quotient_fits (pos a) (negsuc b) w = omega (arith, ints, div-le_self a (suc b))
quotient_fits (negsuc a) (pos b) w = omega (arith, ints, div-le_self (suc a) b)
quotient_fits (negsuc a) (negsuc b) w = omega (arith, ints, div-le_self (suc a) (suc b))

-- a word has no bit from 64 on but copies of its sign
pub shifted_far : (a : ℤ) (k : ℕ) → IsWord a → 64 ≤ k → int_shr a 64 ≡ int_shr a k
shifted_far (pos a) k w h =
    let more = pow_mono {i = 64} {j = k} h in
    ap pos (div-eq_of_lt {n = a} {m = 2 ^ 64} (omega (arith, ints)) ∙ sym (div-eq_of_lt {n = a} {m = 2 ^ k} (omega (arith, ints, more))))
shifted_far (negsuc a) k w h =
    let more = pow_mono {i = 64} {j = k} h in
    ap negsuc (div-eq_of_lt {n = a} {m = 2 ^ 64} (omega (arith, ints)) ∙ sym (div-eq_of_lt {n = a} {m = 2 ^ k} (omega (arith, ints, more))))

pub shifted_fits : (a : ℤ) (k : ℕ) → FitsSigned w128 a → FitsSigned w128 (int_shr a k)
shifted_fits (pos a) k f = record { sfits = omega (arith, f.sfits, shr_le a k) }
shifted_fits (negsuc a) k f = record { sfits = omega (arith, f.sfits, shr_le a k) }
