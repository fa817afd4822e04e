-- Whole numbers of 128 bits: shifts by any count, and which numbers are kept.
use Rattle.std.proofs.Common.{◌≡◌, ◌≢◌, refl, sym, ap, subst, ◌∙◌, ℕ, zero, suc, ◌*◌, ◌%◌, ◌^◌, ◌<◌, ◌≤◌, Bool, true, false, Option, Some, None, Ok, ℤ, pos, ◌*ℤ◌, arith, to_z, FitsSigned}
use Rattle.std.proofs.lemmas.Int.{ints, to_z_pos}
use Rattle.std.proofs.lemmas.Nat.{one_shl, pow_below, mul-le}
use Rattle.std.proofs.Math.Pow.{pow_mono}
use Rattle.std.proofs.Math.Nat.{div-eq_of_lt}
use Rattle.std.proofs.Math.IntN.{negsuc}
use Rattle.std.specs.Option.{SomeIff}
use Rattle.std.specs.Int.{w128, int_shr}
use borrow.Author.Differences.{fits_in, read_fits}
use Rattle.std.specs.Option.{ok_or, option_map}
use Rattle.std.proofs.lemmas.Bool.Decides.{nat_tests}
use Rattle.go_constants.specs.declared.values.ConstFault.TheVariants as fault
use Rattle.go_ints.specs.declared.operators.Trap.{Trap}
use Rattle.go_constants.specs.Folding.{is_untyped_number, whole_after, trap_fault}

-- `1 << n`
pub power_word : (n : ℕ) → n < 127 → to_z w128 (1 * 2 ^ n % 2 ^ 128) ≡ pos (2 ^ n)
power_word n h = ap (to_z w128) (one_shl n 128 (omega arith)) ∙ to_z_pos w128 (2 ^ n) (pow_below n 127 h)

pub word_fits : (n : ℕ) → FitsSigned w128 (to_z w128 n)
word_fits n = omega (arith, fits_in, read_fits w128 n)

-- a shift to the left by 128 bits or more leaves only 0 within 128 bits
pub beyond : (a : ℤ) (k : ℕ) → a ≢ pos 0 → 127 < k → FitsSigned w128 (a *ℤ pos (2 ^ k)) → ⊥
beyond (pos zero) k n h f = n refl
beyond (pos (suc m)) k n h f =
    let power = pow_mono {i = 128} {j = k} h in
    let least = mul-le 1 (2 ^ k) (suc m) (2 ^ k) (omega arith) (omega arith) in
    omega (arith, ints, f)
beyond (negsuc m) k n h f =
    let power = pow_mono {i = 128} {j = k} h in
    let least = mul-le 1 (2 ^ k) (suc m) (2 ^ k) (omega arith) (omega arith) in
    omega (arith, ints, f)

-- and one by 127 bits only 0 and -1
pub at_most : (a : ℤ) → a ≢ pos 0 → a ≢ negsuc 0 → FitsSigned w128 (a *ℤ pos (2 ^ 127)) → ⊥
at_most a n m f = omega (arith, ints, f)

-- a number of 128 bits has no bit from 127 on but copies of its sign
pub shifted_far : (a : ℤ) (k : ℕ) → FitsSigned w128 a → 127 ≤ k → int_shr a 127 ≡ int_shr a k
shifted_far (pos a) k f h =
    let more = pow_mono {i = 127} {j = k} h in
    ap pos (div-eq_of_lt {n = a} {m = 2 ^ 127} f.sfits ∙ sym (div-eq_of_lt {n = a} {m = 2 ^ k} (omega (arith, f.sfits, more))))
shifted_far (negsuc a) k f h =
    let more = pow_mono {i = 127} {j = k} h in
    ap negsuc (div-eq_of_lt {n = a} {m = 2 ^ 127} f.sfits ∙ sym (div-eq_of_lt {n = a} {m = 2 ^ k} (omega (arith, f.sfits, more))))

-- a result that fits in 128 bits is given
pub given : (r z : ℤ) → r ≡ z → FitsSigned w128 r → SomeIff (Some r) (FitsSigned w128 z) z
given r z e f = (subst (FitsSigned w128) e f, e)

-- a power of two that is left out
pub power_given : (o : Option ℤ) (a p : ℤ) (n : ℕ) → p ≡ pos (2 ^ n) → SomeIff o (FitsSigned w128 (a *ℤ p)) (a *ℤ p) → SomeIff o (FitsSigned w128 (a *ℤ pos (2 ^ n))) (a *ℤ pos (2 ^ n))
power_given o a p n e h = subst (λ x. SomeIff o (FitsSigned w128 (a *ℤ x)) (a *ℤ x)) e h

-- the numbers of 128 bits are the untyped ones
pub is_number : (z : ℤ) → FitsSigned w128 z → is_untyped_number z ≡ true
is_number (pos n) f = grind (arith, nat_tests, f.sfits)
is_number (negsuc n) f = grind (arith, nat_tests, f.sfits)

number_fits : (z : ℤ) → is_untyped_number z ≡ true → FitsSigned w128 z
number_fits (pos n) e = record { sfits = grind (arith, nat_tests, e) }
number_fits (negsuc n) e = record { sfits = grind (arith, nat_tests, e) }

pub is_no_number : (z : ℤ) → (FitsSigned w128 z → ⊥) → is_untyped_number z ≡ false
is_no_number z f = by (is_untyped_number z) refl
  where
    by : (t : Bool) → is_untyped_number z ≡ t → t ≡ false
    by true e = absurd (f (number_fits z e))
    by false e = refl

pub answered : (o : Option ℤ) (z : ℤ) → SomeIff o (FitsSigned w128 z) z → ok_or o fault.TooWide ≡ whole_after None z
answered (Some x) z h = rw (is_number z h.0) (ap Ok h.1)
answered None z h = rw (is_no_number z h) refl

pub no_trap : (o : Option Trap) → option_map trap_fault o ≡ None → o ≡ None
no_trap None e = refl
no_trap (Some t) e = cc
