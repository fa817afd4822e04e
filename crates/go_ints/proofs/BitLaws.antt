-- The operators on bits, bit by bit.
use Rattle.std.proofs.Common.{◌≡◌, refl, sym, ap, ◌∙◌, ℕ, suc, ◌+◌, ◌-◌, ◌%◌, ◌<◌, min, max, ℤ, pos, arith, bit_and}
use Rattle.std.proofs.Math.IntN.{negsuc}
use Rattle.std.proofs.lemmas.Nat.{and_assoc, and_le_l}
use Rattle.std.proofs.lemmas.Nat.Bits.{bit_at_and, bit_at_or, bit_at_xor, bit_at-lt}
use Rattle.std.specs.Int.{bit_at}
use Rattle.std.specs.Int.Bits.{bit_xor, xor_add_and, and_self}
use Rattle.go_ints.specs.Bitwise.{bit_of, complement, bitwise_and, bitwise_or, bitwise_xor, bitwise_and_not}

pub bit-complement : (a : ℤ) (i : ℕ) → bit_of (complement a) i ≡ 1 - bit_of a i
bit-complement (pos n) i = refl
bit-complement (negsuc n) i = omega (arith, bit_at-lt n i)

bit_of-lt : (a : ℤ) (i : ℕ) → bit_of a i < 2
bit_of-lt (pos n) i = bit_at-lt n i
bit_of-lt (negsuc n) i = omega arith

-- what holds of 0 and of 1 holds of each bit
each_bit : (P : ℕ → Type 0) → P 0 → P 1 → (x : ℕ) → x < 2 → P x
each_bit P none one ℕ.zero h = none
each_bit P none one (suc ℕ.zero) h = one
each_bit P none one (suc (suc x)) h = absurd (omega arith)

each_pair : (P : ℕ → ℕ → Type 0) → P 0 0 → P 0 1 → P 1 0 → P 1 1 → (x y : ℕ) → x < 2 → y < 2 → P x y
each_pair P a b c d x y h g = each_bit (λ x. P x y) (each_bit (P 0) a b y g) (each_bit (P 1) c d y g) x h

-- to take the common bits away is to turn them
lacking_is : (a b : ℕ) → a - bit_and a b ≡ bit_xor a (bit_and a b)
lacking_is a b =
    let sum = xor_add_and a (bit_and a b) in
    let again : bit_and a (bit_and a b) ≡ bit_and a b = sym (and_assoc b a a) ∙ ap (λ x. bit_and x b) (and_self a) in
    omega (arith, and_le_l a b)

bit-lacking : (a b i : ℕ) → bit_at (a - bit_and a b) i ≡ min (bit_at a i) (1 - bit_at b i)
bit-lacking a b i =
    let parity = each_pair (λ x y. (x + min x y) % 2 ≡ min x (1 - y)) refl refl refl refl (bit_at a i) (bit_at b i) (bit_at-lt a i) (bit_at-lt b i) in
    ap (λ x. bit_at x i) (lacking_is a b) ∙ bit_at_xor a (bit_and a b) i ∙ ap (λ x. (bit_at a i + x) % 2) (bit_at_and a b i) ∙ parity

pub bit-and : (a b : ℤ) (i : ℕ) → bit_of (bitwise_and a b) i ≡ min (bit_of a i) (bit_of b i)
bit-and (pos a) (pos b) i = bit_at_and a b i
bit-and (pos a) (negsuc b) i = bit-lacking a b i
bit-and (negsuc a) (pos b) i = omega (arith, bit-lacking b a i)
bit-and (negsuc a) (negsuc b) i = omega (arith, bit_at_or a b i)

pub bit-or : (a b : ℤ) (i : ℕ) → bit_of (bitwise_or a b) i ≡ max (bit_of a i) (bit_of b i)
bit-or a b i = omega (arith, bit-complement (bitwise_and (complement a) (complement b)) i, bit-and (complement a) (complement b) i, bit-complement a i, bit-complement b i, bit_of-lt a i, bit_of-lt b i)

turned : {x y : ℕ} → x ≡ y → 1 - x ≡ 1 - y
turned e = ap (λ t. 1 - t) e

pub bit-xor : (a b : ℤ) (i : ℕ) → bit_of (bitwise_xor a b) i ≡ (bit_of a i + bit_of b i) % 2
bit-xor (pos a) (pos b) i = bit_at_xor a b i
bit-xor (pos a) (negsuc b) i = turned (bit_at_xor a b i) ∙ each_pair (λ x y. 1 - (x + y) % 2 ≡ (x + (1 - y)) % 2) refl refl refl refl (bit_at a i) (bit_at b i) (bit_at-lt a i) (bit_at-lt b i)
bit-xor (negsuc a) (pos b) i = turned (bit_at_xor a b i) ∙ each_pair (λ x y. 1 - (x + y) % 2 ≡ (1 - x + y) % 2) refl refl refl refl (bit_at a i) (bit_at b i) (bit_at-lt a i) (bit_at-lt b i)
bit-xor (negsuc a) (negsuc b) i = bit_at_xor a b i ∙ each_pair (λ x y. (x + y) % 2 ≡ (1 - x + (1 - y)) % 2) refl refl refl refl (bit_at a i) (bit_at b i) (bit_at-lt a i) (bit_at-lt b i)

pub bit-and_not : (a b : ℤ) (i : ℕ) → bit_of (bitwise_and_not a b) i ≡ min (bit_of a i) (1 - bit_of b i)
bit-and_not a b i = bit-and a (complement b) i ∙ ap (min (bit_of a i)) (bit-complement b i)
