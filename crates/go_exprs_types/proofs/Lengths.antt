-- The lengths of arrays that the table keeps have as many scalars too many as the lengths themselves.
use Rattle.std.proofs.Common.{◌≡◌, ℕ, zero, suc, ◌*◌, ◌-◌, ◌^◌, ◌<◌, ◌≤◌, min, false, cond, ap, sym, ◌∙◌, arith}
use Rattle.std.specs.Prelude.{nat_lt, nat_eq, ◌⊎◌}
use Rattle.std.proofs.Common.{inl, inr}
use Rattle.std.proofs.Math.Nat.{mul-suc, min-eq_left}
use Rattle.std.proofs.lemmas.Bool.Decides.{nat_tests}
use Rattle.go_types.specs.Relations.{array_scalars}
use Rattle.go_types.specs.Verdicts.{kept_count}
use Rattle.go_exprs_rules.specs.TypeNodes.{kept_length, most_scalars}

tests_same : (a b : ℕ) → (1048576 < a → 1048576 < b) → (1048576 < b → 1048576 < a) → nat_lt 1048576 a ≡ nat_lt 1048576 b
tests_same a b f g = grind (arith, nat_tests)

abbrev bounded : ℕ → ℕ
bounded n = min n (2 ^ 32 - 1)

-- a product with a positive number is at least the other one
at_least : (a k : ℕ) → a ≤ a * suc k
at_least a k = let e = mul-suc a k in omega arith

times : (n k : ℕ) → (n ≤ 4294967295) ⊎ (4294967295 < n) → nat_lt 1048576 (min (bounded n * suc k) (2 ^ 64 - 1)) ≡ nat_lt 1048576 (n * suc k)
times n k (inl h) =
    let same : bounded n * suc k ≡ n * suc k = ap (λ x. x * suc k) (min-eq_left h) in
    tests_same (min (bounded n * suc k) (2 ^ 64 - 1)) (n * suc k) (λ g. omega arith) (λ g. omega arith)
times n k (inr h) =
    let least : bounded n ≡ 4294967295 = omega arith in
    let more = at_least (bounded n) k in
    let most = at_least n k in
    tests_same (min (bounded n * suc k) (2 ^ 64 - 1)) (n * suc k) (λ g. omega arith) (λ g. omega arith)

below_or_above : (n : ℕ) → (n ≤ 4294967295) ⊎ (4294967295 < n)
below_or_above n = grind arith

not_zero : (k : ℕ) → nat_eq (suc k) 0 ≡ false
not_zero k = grind (arith, nat_tests)

pub over_same : (n m : ℕ) → nat_lt most_scalars (kept_count (array_scalars (kept_length n) m)) ≡ nat_lt most_scalars (array_scalars n m)
over_same n zero = tests_same (kept_count (kept_length n)) n (λ g. omega arith) (λ g. omega arith)
over_same n (suc k) =
    ap (λ b. nat_lt most_scalars (kept_count (cond b (kept_length n) (kept_length n * suc k)))) (not_zero k)
    ∙ times n k (below_or_above n)
    ∙ sym (ap (λ b. nat_lt most_scalars (cond b n (n * suc k))) (not_zero k))
