-- How many numbers pass, and ranks among heights.
use Rattle.std.proofs.Common.{◌≡◌, ℕ, zero, suc, ◌+◌, ◌*◌, ◌<◌, ◌≤◌, Bool, true, false, refl, sym, ap, ◌∙◌, subst, arith}
use Rattle.std.proofs.Math.Nat.{mul-le-mul_left}
use Rattle.std.proofs.lemmas.Bool.{ltb-true, ltb-false, lt-ltb}
use Rattle.std.specs.Prelude.{nat_lt}
use Rattle.go_package_settled.specs.Counts.{one_if, count, only_if, greatest, rank}

-- ---- products

-- what has more of the first part is higher, whatever the second is
pub higher : (c a b x y : ℕ) → a < b → x < c → c * a + x < c * b + y
higher c a b x y l s = let h : c * suc a ≤ c * b = mul-le-mul_left c l in omega (arith, h, s)

pub as_high : (c a b x y : ℕ) → a ≤ b → x < y → c * a + x < c * b + y
as_high c a b x y l s = let h : c * a ≤ c * b = mul-le-mul_left c l in omega (arith, h, s)

-- ---- counts

one_least : (b : Bool) (k n : ℕ) → k ≤ n → one_if b k ≤ suc n
one_least true k n h = omega (arith, h)
one_least false k n h = omega (arith, h)

pub count_least : (f : ℕ → Bool) (n : ℕ) → count f n ≤ n
count_least f zero = omega arith
count_least f (suc n) = one_least (f n) (count f n) n (count_least f n)

one_more : (b c : Bool) (k l : ℕ) → (b ≡ true → c ≡ true) → k ≤ l → one_if b k ≤ one_if c l
one_more true true k l f h = omega (arith, h)
one_more true false k l f h = absurd (grind (arith, f refl))
one_more false true k l f h = omega (arith, h)
one_more false false k l f h = h

pub count_more : (f g : ℕ → Bool) → ((m : ℕ) → f m ≡ true → g m ≡ true) → (n : ℕ) → count f n ≤ count g n
count_more f g h zero = omega arith
count_more f g h (suc n) = one_more (f n) (g n) (count f n) (count g n) (h n) (count_more f g h n)

one_less : (b c : Bool) (k l : ℕ) → (b ≡ true → c ≡ true) → k < l → one_if b k < one_if c l
one_less true true k l f h = omega (arith, h)
one_less true false k l f h = absurd (grind (arith, f refl))
one_less false true k l f h = omega (arith, h)
one_less false false k l f h = h

one_new : (b c : Bool) (k l : ℕ) → b ≡ false → c ≡ true → k ≤ l → one_if b k < one_if c l
one_new true c k l e f h = absurd (grind (arith, e))
one_new false true k l e f h = omega (arith, h)
one_new false false k l e f h = absurd (grind (arith, f))

-- all that pass the one pass the other, and so does x, which doesn't pass the one
pub count_less : (f g : ℕ → Bool) → ((m : ℕ) → f m ≡ true → g m ≡ true) → (x n : ℕ) → x < n → f x ≡ false → g x ≡ true → count f n < count g n
count_less f g h x zero l e d = absurd (omega (arith, l))
count_less f g h x (suc n) l e d = by (nat_lt x n) refl (λ q. count_less f g h x n (ltb-true x n q) e d)
  where
    by : (b : Bool) → nat_lt x n ≡ b → (nat_lt x n ≡ true → count f n < count g n) → one_if (f n) (count f n) < one_if (g n) (count g n)
    by true q i = one_less (f n) (g n) (count f n) (count g n) (h n) (i q)
    by false q i =
        let low = ltb-false x n q in
        let same : x ≡ n = omega (arith, l, low) in
        one_new (f n) (g n) (count f n) (count g n) (sym (ap f same) ∙ e) (sym (ap g same) ∙ d) (count_more f g h n)

every : ℕ → Bool
every m = true

count_every : (n : ℕ) → count every n ≡ n
unfolding every
count_every zero = refl
count_every (suc n) = ap suc (count_every n)

-- fewer than all, where one doesn't pass
pub count_fewer : (f : ℕ → Bool) (x n : ℕ) → x < n → f x ≡ false → count f n < n
unfolding every
count_fewer f x n l e = subst (λ k. count f n < k) (count_every n) (count_less f every (λ m q. refl) x n l e refl)

-- ---- ranks

module _ (t u : ℕ → ℕ) (n : ℕ) where
  less_more : (f : ℕ → ℕ) (j k : ℕ) → j ≤ k → (m : ℕ) → nat_lt (f m) j ≡ true → nat_lt (f m) k ≡ true
  less_more f j k l m e = let h = ltb-true (f m) j e in lt-ltb (f m) k (omega (arith, h, l))

  not_itself : (a : ℕ) → nat_lt a a ≡ false
  not_itself a = by (nat_lt a a) refl
    where
      by : (b : Bool) → nat_lt a a ≡ b → nat_lt a a ≡ false
      by true e = let h = ltb-true a a e in absurd (omega (arith, h))
      by false e = e

  pub rank_more : (j k : ℕ) → j ≤ k → rank t u n j ≤ rank t u n k
  rank_more j k l =
      let a = count_more (λ m. nat_lt (t m) j) (λ m. nat_lt (t m) k) (less_more t j k l) n in
      let b = count_more (λ m. nat_lt (u m) j) (λ m. nat_lt (u m) k) (less_more u j k l) n in
      omega (arith, a, b)

  pub rank_first : (x k : ℕ) → x < n → t x < k → rank t u n (t x) < rank t u n k
  rank_first x k l s =
      let low : t x ≤ k = omega (arith, s) in
      let a = count_less (λ m. nat_lt (t m) (t x)) (λ m. nat_lt (t m) k) (less_more t (t x) k low) x n l (not_itself (t x)) (lt-ltb (t x) k s) in
      let b = count_more (λ m. nat_lt (u m) (t x)) (λ m. nat_lt (u m) k) (less_more u (t x) k low) n in
      omega (arith, a, b)

  pub rank_second : (x k : ℕ) → x < n → u x < k → rank t u n (u x) < rank t u n k
  rank_second x k l s =
      let low : u x ≤ k = omega (arith, s) in
      let a = count_more (λ m. nat_lt (t m) (u x)) (λ m. nat_lt (t m) k) (less_more t (u x) k low) n in
      let b = count_less (λ m. nat_lt (u m) (u x)) (λ m. nat_lt (u m) k) (less_more u (u x) k low) x n l (not_itself (u x)) (lt-ltb (u x) k s) in
      omega (arith, a, b)

  pub first_most : (x : ℕ) → x < n → rank t u n (t x) ≤ n + n
  first_most x l =
      let a = count_fewer (λ m. nat_lt (t m) (t x)) x n l (not_itself (t x)) in
      let b = count_least (λ m. nat_lt (u m) (t x)) n in
      omega (arith, a, b)

  pub second_most : (x : ℕ) → x < n → rank t u n (u x) ≤ n + n
  second_most x l =
      let a = count_least (λ m. nat_lt (t m) (u x)) n in
      let b = count_fewer (λ m. nat_lt (u m) (u x)) x n l (not_itself (u x)) in
      omega (arith, a, b)

-- ---- the greatest

only_over : (b : Bool) (k : ℕ) → b ≡ true → k ≤ only_if b k
only_over true k e = omega arith
only_over false k e = absurd (grind (arith, e))

only_under : (b : Bool) (k l : ℕ) → 0 < l → (b ≡ true → k < l) → only_if b k < l
only_under true k l z h = h refl
only_under false k l z h = z

pub greatest_over : (test : ℕ → Bool) (f : ℕ → ℕ) (m n : ℕ) → m < n → test m ≡ true → f m ≤ greatest test f n
greatest_over test f m zero l e = absurd (omega (arith, l))
greatest_over test f m (suc n) l e = by (nat_lt m n) refl (λ q. greatest_over test f m n (ltb-true m n q) e)
  where
    by : (b : Bool) → nat_lt m n ≡ b → (nat_lt m n ≡ true → f m ≤ greatest test f n) → f m ≤ greatest test f (suc n)
    by true q i = let h = i q in omega (arith, h)
    by false q i =
        let low = ltb-false m n q in
        let same : n ≡ m = omega (arith, l, low) in
        let h = only_over (test n) (f n) (ap test same ∙ e) in
        let g : f n ≡ f m = ap f same in
        omega (arith, h, g)

pub greatest_under : (test : ℕ → Bool) (f : ℕ → ℕ) (k n : ℕ) → 0 < k → ((m : ℕ) → test m ≡ true → f m < k) → greatest test f n < k
greatest_under test f k zero z h = z
greatest_under test f k (suc n) z h =
    let a = only_under (test n) (f n) k z (h n) in
    let b = greatest_under test f k n z h in
    omega (arith, a, b)

only_more : (b c : Bool) (k : ℕ) → (b ≡ true → c ≡ true) → only_if b k ≤ only_if c k
only_more true true k h = omega arith
only_more true false k h = absurd (grind (arith, h refl))
only_more false c k h = omega arith

pub greatest_more : (test other : ℕ → Bool) (f : ℕ → ℕ) (n : ℕ) → ((m : ℕ) → test m ≡ true → other m ≡ true) → greatest test f n ≤ greatest other f n
greatest_more test other f zero h = omega arith
greatest_more test other f (suc n) h =
    let a = only_more (test n) (other n) (f n) (h n) in
    let b = greatest_more test other f n h in
    omega (arith, a, b)
