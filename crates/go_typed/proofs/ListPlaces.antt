-- What stands in a list at a number.
use Rattle.std.proofs.Common.{◌≡◌, ◌∙◌, ◌⊎◌, inl, inr, ℕ, zero, suc, ◌+◌, ◌<◌, List, [], ◌∷◌, ◌++◌, length, Some, slice_get, ap, arith}

pub get_right : {X : Type 0} (xs ys : List X) (k : ℕ) → slice_get (xs ++ ys) (length xs + k) ≡ slice_get ys k
get_right [] ys k = ap (slice_get ys) (omega arith)
get_right (x ∷ xs) ys k = let e : length (x ∷ xs) + k ≡ suc (length xs + k) = omega arith in ap (slice_get ((x ∷ xs) ++ ys)) e ∙ get_right xs ys k

pub get_left : {X : Type 0} (xs ys : List X) (k : ℕ) (x : X) → slice_get xs k ≡ Some x → slice_get (xs ++ ys) k ≡ Some x
get_left [] ys k x e = cc
get_left (y ∷ xs) ys zero x e = e
get_left (y ∷ xs) ys (suc k) x e = get_left xs ys k x e

pub get_within : {X : Type 0} (xs : List X) (k : ℕ) (x : X) → slice_get xs k ≡ Some x → k < length xs
get_within [] k x e = cc
get_within (y ∷ xs) zero x e = omega arith
get_within (y ∷ xs) (suc k) x e = let h : k < length xs = get_within xs k x e in omega arith

-- in the one list, or so far into the other
pub record Behind {X : Type 0} (xs ys : List X) (m : ℕ) (x : X) : Type 0 where
  pub place : ℕ
  pub place_is : m ≡ length xs + place
  pub there : slice_get ys place ≡ Some x

pub get_either : {X : Type 0} (xs ys : List X) (m : ℕ) (x : X) → slice_get (xs ++ ys) m ≡ Some x → (slice_get xs m ≡ Some x) ⊎ Behind xs ys m x
get_either [] ys m x e = inr (record { place = m; place_is = omega arith; there = e })
get_either (y ∷ xs) ys zero x e = inl e
get_either {X = X} (y ∷ xs) ys (suc m) x e = further (get_either xs ys m x e) where
  further : (slice_get xs m ≡ Some x) ⊎ Behind xs ys m x → (slice_get (y ∷ xs) (suc m) ≡ Some x) ⊎ Behind (y ∷ xs) ys (suc m) x
  further (inl h) = inl h
  further (inr b) = inr (record { place = b.place; place_is = let p : m ≡ length xs + b.place = b.place_is in omega (arith, p); there = b.there })
