-- Numbers in lists.
use Rattle.std.proofs.Common.{◌≡◌, ℕ, zero, suc, ◌<◌, Bool, true, false, ◌||◌, List, [], ◌∷◌, length, Some, None, refl, arith}
use Rattle.std.specs.Prelude.{slice_get, nat_eq}
use Rattle.std.proofs.lemmas.Bool.{eqb-true, eq-eqb, or_left, or_right}
use Rattle.go_package_defs.specs.Verdicts.{is_in}
use Rattle.go_package_laws.specs.Ranks.{AllBefore}

-- one number, or what passes
pub one_or : {P : Type 0} (m n : ℕ) (b : Bool) → (nat_eq m n || b) ≡ true → (m ≡ n → P) → (b ≡ true → P) → P
one_or {P} m n b e f g = by (nat_eq m n) refl e
  where
    by : (c : Bool) → nat_eq m n ≡ c → (c || b) ≡ true → P
    by true q h = f (eqb-true m n q)
    by false q h = g h

pub one_first : (n : ℕ) (b : Bool) → (nat_eq n n || b) ≡ true
one_first n b = or_left (nat_eq n n) b (eq-eqb n n refl)

pub one_later : (m n : ℕ) (b : Bool) → b ≡ true → (nat_eq m n || b) ≡ true
one_later m n b e = or_right (nat_eq m n) b e

pub all_before : (f : ℕ → ℕ) (k : ℕ) (ns : List ℕ) → ((m : ℕ) → is_in ns m ≡ true → f m < k) → AllBefore f k ns
all_before f k [] h = tt
all_before f k (n ∷ ns) h = (h n (one_first n (is_in ns n)), all_before f k ns (λ m e. h m (one_later m n (is_in ns m) e)))

-- ---- places

pub place_below : {A : Type 0} (xs : List A) (n : ℕ) (x : A) → slice_get xs n ≡ Some x → n < length xs
place_below [] n x e = absurd cc
place_below (y ∷ ys) zero x e = omega arith
place_below (y ∷ ys) (suc n) x e = let h = place_below ys n x e in omega (arith, h)

pub item_at : {A : Type 0} (xs : List A) (n : ℕ) → n < length xs → (x : A) × (slice_get xs n ≡ Some x)
item_at [] n h = absurd (omega (arith, h))
item_at (x ∷ xs) zero h = (x, refl)
item_at (x ∷ xs) (suc n) h = item_at xs n (let l : n < length xs = omega (arith, h) in l)

pub outside : {A B : Type 0} (xs : List A) (ys : List B) (n : ℕ) → length ys ≡ length xs → slice_get xs n ≡ None → slice_get ys n ≡ None
outside [] [] n l e = refl
outside [] (y ∷ ys) n l e = cc
outside (x ∷ xs) [] n l e = cc
outside (x ∷ xs) (y ∷ ys) zero l e = cc
outside (x ∷ xs) (y ∷ ys) (suc n) l e = outside xs ys n (let h : length ys ≡ length xs = omega (arith, l) in h) e
