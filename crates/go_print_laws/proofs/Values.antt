-- The value of a number in decimal, and a number as a node.
use Rattle.std.proofs.Common.{◌≡◌, ℕ, zero, suc, ◌+◌, ◌*◌, ◌<◌, ◌^◌, Bool, true, false, cond, ◌==◌, if◌then◌else◌, List, [], ◌∷◌, ◌++◌, nat_lt, refl, sym, ap, ◌∙◌, arith}
use Rattle.std.specs.Prelude.{◌%◌, ◌/◌, ◌-◌}
use Rattle.std.specs.Fmt.{decimal}
use Rattle.std.specs.Char.{digit_value}
use Rattle.std.proofs.lemmas.Fmt.{decimal_by_steps_wide, decimal_digit}
use Rattle.std.proofs.lemmas.Bool.Decides.{nat_tests}
use Rattle.go_tokens.specs.Literals.{letter_base, digits_value, integer_value}
use Rattle.go_print_laws.proofs.Decimals.{has_digits}

module _ (r : ℕ) (h : r < 10) where
  last_value : digit_value (48 + r) ≡ r
  last_value =
      ap (λ b. cond b 36 (cond (nat_lt (48 + r) 58) (48 + r - 48) (cond (nat_lt (48 + r) 65) 36 (cond (nat_lt (48 + r) 91) (48 + r - 55) (cond (nat_lt (48 + r) 97) 36 (cond (nat_lt (48 + r) 123) (48 + r - 87) 36))))))
      (let n : nat_lt (48 + r) 48 ≡ false = grind (arith, nat_tests) in n)
      ∙ ap (λ b. cond b (48 + r - 48) (cond (nat_lt (48 + r) 65) 36 (cond (nat_lt (48 + r) 91) (48 + r - 55) (cond (nat_lt (48 + r) 97) 36 (cond (nat_lt (48 + r) 123) (48 + r - 87) 36)))))
      (let n : nat_lt (48 + r) 58 ≡ true = grind (arith, nat_tests) in n)
      ∙ (let n : 48 + r - 48 ≡ r = omega arith in n)

  one_digit : (m : ℕ) → digits_value 10 m ((48 + r) ∷ []) ≡ m * 10 + r
  one_digit m = ap (λ b. if b then m else m * 10 + digit_value (48 + r)) (let n : (48 + r == 95) ≡ false = grind (arith, nat_tests) in n) ∙ ap (λ n. m * 10 + n) last_value

  digit_behind : (m : ℕ) (ds : List ℕ) → digits_value 10 m (ds ++ (48 + r) ∷ []) ≡ digits_value 10 m ds * 10 + r
  digit_behind m [] = one_digit m
  digit_behind m (x ∷ xs) = by (x == 95) (digit_behind m xs) (digit_behind (m * 10 + digit_value x) xs)
    where
      by : (b : Bool) → digits_value 10 m (xs ++ (48 + r) ∷ []) ≡ digits_value 10 m xs * 10 + r
          → digits_value 10 (m * 10 + digit_value x) (xs ++ (48 + r) ∷ []) ≡ digits_value 10 (m * 10 + digit_value x) xs * 10 + r
          → (if b then digits_value 10 m (xs ++ (48 + r) ∷ []) else digits_value 10 (m * 10 + digit_value x) (xs ++ (48 + r) ∷ []))
          ≡ (if b then digits_value 10 m xs else digits_value 10 (m * 10 + digit_value x) xs) * 10 + r
      by true e f = e
      by false e f = f

decimal_value : (n : ℕ) → n < 10 ^ 64 → digits_value 10 0 (decimal n) ≡ n
decimal_value = decimal_by_steps_wide (λ n ds. digits_value 10 0 ds ≡ n)
    (λ n h. one_digit n h 0 ∙ (let e : 0 * 10 + n ≡ n = omega arith in e))
    (λ n ds h p. digit_behind (n % 10) (omega arith) 0 ds ∙ ap (λ m. m * 10 + n % 10) p ∙ (let e : n / 10 * 10 + n % 10 ≡ n = omega arith in e))

-- digits of which the first isn't 0, or one digit
plain_value : (x : ℕ) (xs : List ℕ) → (x == 48) ≡ false → integer_value (x ∷ xs) ≡ digits_value 10 0 (x ∷ xs)
plain_value x [] e = refl
plain_value x (y ∷ ys) e =
    ap (λ b. digits_value (if b then (if letter_base y == 0 then 8 else letter_base y) else 10) 0 (if b then (if letter_base y == 0 then y ∷ ys else ys) else x ∷ y ∷ ys)) e

pub number_value : (n : ℕ) → n < 10 ^ 64 → integer_value (decimal n) ≡ n
number_value zero h = ap integer_value (decimal_digit 0 (omega arith))
number_value (suc n) h =
    let p = has_digits (suc n) h in
    ap integer_value p.is ∙ plain_value p.first p.more (p.nonzero (omega arith)) ∙ ap (digits_value 10 0) (sym p.is) ∙ decimal_value (suc n) h
