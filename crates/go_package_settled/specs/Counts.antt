-- How many numbers pass a test, and the greatest of what those are given.
use Rattle.std.specs.Prelude.{ℕ, zero, suc, ◌+◌, Bool, true, false, nat_lt, max}

abbrev pub one_if : Bool → ℕ → ℕ
one_if true k = suc k
one_if false k = k

-- how many numbers below n pass
abbrev pub count : (ℕ → Bool) → ℕ → ℕ
count f zero = 0
count f (suc n) = one_if (f n) (count f n)

abbrev pub only_if : Bool → ℕ → ℕ
only_if true k = k
only_if false k = 0

-- the greatest of what the numbers below n are given that pass; 0 where there are none
abbrev pub greatest : (ℕ → Bool) → (ℕ → ℕ) → ℕ → ℕ
greatest test f zero = 0
greatest test f (suc n) = max (only_if (test n) (f n)) (greatest test f n)

-- Of n numbers each has two heights: one more than how many of these heights are below k.
abbrev pub rank : (ℕ → ℕ) → (ℕ → ℕ) → ℕ → ℕ → ℕ
rank t u n k = suc (count (λ m. nat_lt (t m) k) n + count (λ m. nat_lt (u m) k) n)
