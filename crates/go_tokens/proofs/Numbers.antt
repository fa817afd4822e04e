-- Numbers by their digits.
use Rattle.std.proofs.Common.{◌≡◌, ℕ, suc, ◌+◌, ◌*◌, ◌^◌, ◌<◌, ◌≤◌, ⊎_elim, Bool, true, false, cond, nat_lt, ◌==◌, ◌∙◌, sym, ap, List, [], ◌∷◌, length, drop, get_or, refl, Option, Some, None, MatchOption, IfSome, add-one, arith}
use Rattle.std.proofs.lemmas.Bool.Decides.{nat_tests}
use Rattle.std.proofs.lemmas.Grind.{pow_more}
use Rattle.std.proofs.Math.Nat.{mul-le-mul_left, mul-le-mul_right, pow-le-pow_right, suc-mul}
use Rattle.std.proofs.Math.Seq.{drop-cons}
use Rattle.std.specs.Char.{digit_value, InScalarRange, OutOfScalarRange}
use Rattle.go_tokens.specs.Literals.{is_digit_of, digits_number, digits_value, is_code_point}
use Rattle.go_tokens.specs.Values.{below, with_digit}
use Rattle.go_tokens.proofs.Lists.{not_true}

-- one digit more fits where all digits do
pub number_fits : (b n v i : ℕ) → 2 ≤ b → v < b ^ i → i < n → b ^ n ≤ 2 ^ 32 → v * b + b ≤ 2 ^ 32
number_fits b n v i two small within bound =
    let more : suc v * b ≤ b ^ i * b = mul-le-mul_right b small in
    let next : b ^ (i + 1) ≤ b ^ n = pow-le-pow_right (omega (arith, two)) (omega (arith, within)) in
    omega (arith, more, next, bound, pow_more b i, suc-mul v b)

pub number_small : (b v i d : ℕ) → v < b ^ i → d < b → v * b + d < b ^ (i + 1)
number_small b v i d small digit =
    let more : suc v * b ≤ b ^ i * b = mul-le-mul_right b small in
    omega (arith, more, digit, pow_more b i, suc-mul v b)

is_digit_true : (b x : ℕ) → digit_value x < b → is_digit_of b x ≡ true
unfolding is_digit_of
is_digit_true b x h = grind (arith, nat_tests)

is_digit_false : (b x : ℕ) → (digit_value x < b → ⊥) → is_digit_of b x ≡ false
unfolding is_digit_of
is_digit_false b x h = not_true _ (λ t. h (grind (arith, nat_tests)))

-- the number that digits mean from one of them on
pub digits_step : (b v i x : ℕ) (ds : List ℕ) → i < length ds → x ≡ get_or ds i 0 → digit_value x < b → digits_number b v (drop i ds) ≡ digits_number b (v * b + digit_value x) (drop (i + 1) ds)
digits_step b v i x ds h e small =
    ap (digits_number b v) (drop-cons ds i 0 h ∙ ap (λ y. y ∷ drop (suc i) ds) (sym e))
    ∙ ap (λ t. cond t (digits_number b (v * b + digit_value x) (drop (suc i) ds)) None) (is_digit_true b x small)
    ∙ ap (λ n. digits_number b (v * b + digit_value x) (drop n ds)) (sym (add-one i))

pub digits_stop : (b v i x : ℕ) (ds : List ℕ) → i < length ds → x ≡ get_or ds i 0 → (digit_value x < b → ⊥) → digits_number b v (drop i ds) ≡ None
digits_stop b v i x ds h e large =
    ap (digits_number b v) (drop-cons ds i 0 h ∙ ap (λ y. y ∷ drop (suc i) ds) (sym e))
    ∙ ap (λ t. cond t (digits_number b (v * b + digit_value x) (drop (suc i) ds)) None) (is_digit_false b x large)

in_range : (v : ℕ) → InScalarRange v → is_code_point v ≡ true
unfolding is_code_point
in_range v h = ⊎_elim (λ a. grind (arith, nat_tests)) (λ a. grind (arith, nat_tests)) h

out_of_range : (v : ℕ) → OutOfScalarRange v → is_code_point v ≡ false
unfolding is_code_point
out_of_range v h = ⊎_elim (λ a. grind (arith, nat_tests)) (λ a. grind (arith, nat_tests)) h

-- the character of a number
pub code_point_is : (v : ℕ) (o : Option ℕ) → MatchOption o (OutOfScalarRange v) (λ c. InScalarRange v) → IfSome o (λ c. c ≡ v) → o ≡ cond (is_code_point v) (Some v) None
code_point_is v None h e = sym (ap (λ t. cond t (Some v) None) (out_of_range v h))
code_point_is v (Some c) h e = ap (λ c. Some c) e ∙ sym (ap (λ t. cond t (Some v) None) (in_range v h))

-- The value of digits from one of them on, and no digit makes it less.
value_digit : (b v x : ℕ) (ds : List ℕ) → digits_value b v (x ∷ ds) ≡ digits_value b (with_digit b v x) ds
value_digit b v x ds = by (x == 95)
  where
    by : (t : Bool) → cond t (digits_value b v ds) (digits_value b (v * b + digit_value x) ds) ≡ digits_value b (cond t v (v * b + digit_value x)) ds
    by true = refl
    by false = refl

more_by : (b v x : ℕ) (t : Bool) → 2 ≤ b → v ≤ cond t v (v * b + digit_value x)
more_by b v x true two = omega arith
more_by b v x false two = omega (arith, mul-le-mul_left v two)

value_least : (b v : ℕ) (ds : List ℕ) → 2 ≤ b → v ≤ digits_value b v ds
value_least b v [] two = omega arith
value_least b v (x ∷ ds) two = omega (arith, more_by b v x (x == 95) two, value_least b (with_digit b v x) ds two, value_digit b v x ds)

none_false : (t : Bool) (n : ℕ) → cond t (Some n) None ≡ None → t ≡ false
none_false true n h = cc
none_false false n h = refl

below_none : (limit n : ℕ) → below limit n ≡ None → limit ≤ n
below_none limit n h = let t = none_false (nat_lt n limit) n h in grind (arith, nat_tests)

none_below : (limit n : ℕ) → limit ≤ n → below limit n ≡ None
none_below limit n h = ap (λ t. cond t (Some n) None) (not_true (nat_lt n limit) (λ t. absurd (grind (arith, nat_tests))))

-- where it is too great with one digit more, it is with all
pub too_great : (limit b v i : ℕ) (ds : List ℕ) → 2 ≤ b → i < length ds → below limit (with_digit b v (get_or ds i 0)) ≡ None → digits_value b v (drop i ds) ≡ digits_value b 0 ds → None ≡ below limit (digits_value b 0 ds)
too_great limit b v i ds two h great so_far =
    let x : ℕ = get_or ds i 0 in
    let rest : List ℕ = drop (suc i) ds in
    let all : digits_value b (with_digit b v x) rest ≡ digits_value b 0 ds = sym (value_digit b v x rest) ∙ ap (digits_value b v) (sym (drop-cons ds i 0 h)) ∙ so_far in
    sym (none_below limit (digits_value b 0 ds) (omega (arith, all, value_least b (with_digit b v x) rest two, below_none limit (with_digit b v x) great)))
