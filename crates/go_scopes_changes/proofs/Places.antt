-- The token at a place of a head.
use Rattle.std.proofs.Common.{◌≡◌, ◌∙◌, ℕ, zero, suc, ◌+◌, ◌≤◌, inl, inr, ◌⊎◌, Bool, true, false, List, [], ◌∷◌, length, refl, sym, ap, arith}
use Rattle.std.specs.Prelude.{if◌then◌else◌, slice_get}
use Rattle.go_heads.specs.Heads.{outside, place_outside}

abbrev pub one_more : ℕ → (ℕ → ℕ) → ℕ
one_more zero f = zero
one_more (suc k) f = suc (f k)

-- Of so many tokens from the number n on, counted from there, the one with the place k among those outside; behind all of them the
-- places go on.
abbrev pub token_from : (ℕ → Bool) → ℕ → ℕ → ℕ → ℕ
token_from p n zero k = k
token_from p n (suc z) k = if p n then suc (token_from p (suc n) z k) else one_more k (token_from p (suc n) z)

-- the element there
pub element_there : {A : Type 0} (p : ℕ → Bool) (n : ℕ) (xs : List A) (k : ℕ) → slice_get xs (token_from p n (length xs) k) ≡ slice_get (outside p n xs) k
element_there p n [] k = refl
element_there p n (x ∷ xs) k = by (p n) k (element_there p (suc n) xs)
  where
    by : (b : Bool) (k : ℕ) → ((k : ℕ) → slice_get xs (token_from p (suc n) (length xs) k) ≡ slice_get (outside p (suc n) xs) k)
        → slice_get (x ∷ xs) (if b then suc (token_from p (suc n) (length xs) k) else one_more k (token_from p (suc n) (length xs))) ≡ slice_get (if b then outside p (suc n) xs else x ∷ outside p (suc n) xs) k
    by true k h = h k
    by false zero h = refl
    by false (suc k) h = h k

-- ---- its place

-- how many of so many tokens from the number n on are outside
abbrev pub places_from : (ℕ → Bool) → ℕ → ℕ → ℕ
places_from p n zero = zero
places_from p n (suc t) = if p n then places_from p (suc n) t else suc (places_from p (suc n) t)

places_behind : (p : ℕ → Bool) (n t : ℕ) → places_from p n (suc t) ≡ (if p (n + t) then places_from p n t else suc (places_from p n t))
places_behind p n zero = let z : n ≡ n + 0 = omega arith in ap (λ x. if p x then 0 else 1) z
places_behind p n (suc t) =
    let z : suc n + t ≡ n + suc t = omega arith in
    ap (λ x. if p n then x else suc x) (places_behind p (suc n) t)
    ∙ by (p n) (p (suc n + t)) (places_from p (suc n) t)
    ∙ ap (λ x. if p x then places_from p n (suc t) else suc (places_from p n (suc t))) z
  where
    by : (b c : Bool) (x : ℕ) → (if b then (if c then x else suc x) else suc (if c then x else suc x)) ≡ (if c then (if b then x else suc x) else suc (if b then x else suc x))
    by true c x = refl
    by false true x = refl
    by false false x = refl

pub places_all : (p : ℕ → Bool) (t : ℕ) → place_outside p t ≡ places_from p 0 t
places_all p zero = refl
places_all p (suc t) =
    let z : t ≡ 0 + t = omega arith in
    ap (λ x. if p t then x else suc x) (places_all p t) ∙ ap (λ x. if p x then places_from p 0 t else suc (places_from p 0 t)) z ∙ sym (places_behind p 0 t)

-- the token at the place of a token outside, or of the end
token_found : (p : ℕ → Bool) (n z t : ℕ) → t ≤ z → (t ≡ z) ⊎ (p (n + t) ≡ false) → token_from p n z (places_from p n t) ≡ t
token_found p n zero zero le h = refl
token_found p n zero (suc t) le h = absurd (omega (arith, le))
token_found p n (suc z) zero le (inl e) = absurd (omega (arith, e))
token_found p n (suc z) zero le (inr e) =
    let y : n ≡ n + 0 = omega arith in
    ap (λ b. if b then suc (token_from p (suc n) z 0) else 0) (ap p y ∙ e)
token_found p n (suc z) (suc t) le h = by (p n) (token_found p (suc n) z t (omega (arith, le)) (next h))
  where
    next : (suc t ≡ suc z) ⊎ (p (n + suc t) ≡ false) → (t ≡ z) ⊎ (p (suc n + t) ≡ false)
    next (inl e) = inl (omega (arith, e))
    next (inr e) = inr (let y : suc n + t ≡ n + suc t = omega arith in ap p y ∙ e)

    by : (b : Bool) → token_from p (suc n) z (places_from p (suc n) t) ≡ t
        → (if b then suc (token_from p (suc n) z (if b then places_from p (suc n) t else suc (places_from p (suc n) t))) else one_more (if b then places_from p (suc n) t else suc (places_from p (suc n) t)) (token_from p (suc n) z)) ≡ suc t
    by true e = ap suc e
    by false e = ap suc e

pub token_at_place : (p : ℕ → Bool) (z t : ℕ) → t ≤ z → (t ≡ z) ⊎ (p t ≡ false) → token_from p 0 z (place_outside p t) ≡ t
token_at_place p z t le h = ap (token_from p 0 z) (places_all p t) ∙ token_found p 0 z t le (by h)
  where
    by : (t ≡ z) ⊎ (p t ≡ false) → (t ≡ z) ⊎ (p (0 + t) ≡ false)
    by (inl e) = inl e
    by (inr e) = inr (let y : 0 + t ≡ t = omega arith in ap p y ∙ e)
