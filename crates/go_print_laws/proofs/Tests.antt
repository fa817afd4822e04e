-- Tests of all numbers in a range.
use Rattle.std.proofs.Common.{◌≡◌, ℕ, zero, suc, ◌+◌, ◌<◌, ◌≤◌, Bool, true, false, ◌&&◌, nat_eq, refl, subst, arith}
use Rattle.std.proofs.lemmas.Bool.Decides.{nat_tests}
use Rattle.go_tokens.proofs.Public.{both}

-- so many numbers pass, from one on
abbrev pub checks : (ℕ → Bool) → ℕ → ℕ → Bool
checks f zero a = true
checks f (suc c) a = f a && checks f c (suc a)

pub checked : (f : ℕ → Bool) (c a x : ℕ) → checks f c a ≡ true → a ≤ x → x < a + c → f x ≡ true
checked f zero a x h l u = absurd (omega arith)
checked f (suc c) a x h l u = by (nat_eq a x) refl (checked f c (suc a) x (both (f a) _ h).1)
  where
    by : (b : Bool) → b ≡ nat_eq a x → (suc a ≤ x → x < suc a + c → f x ≡ true) → f x ≡ true
    by true e g = let s : a ≡ x = grind (arith, nat_tests) in subst (λ y. f y ≡ true) s (both (f a) _ h).0
    by false e g = g (grind (arith, nat_tests)) (omega arith)
