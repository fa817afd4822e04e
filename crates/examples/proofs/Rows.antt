-- What holds of each place of a row.
use Rattle.std.proofs.Common.{◌≡◌, ℕ, zero, suc, ◌+◌, ◌<◌, ◌≤◌, List, [], ◌∷◌, length, Option, Some, None, ◌⊎◌, inl, inr, refl, subst, arith}
use Rattle.std.specs.Prelude.{slice_get}
use Rattle.std.proofs.lemmas.Bool.{cases_lt}

pub within : {A : Type 0} (xs : List A) (k : ℕ) (x : A) → slice_get xs k ≡ Some x → k < length xs
within [] k x e = cc
within (y ∷ ys) zero x e = omega arith
within (y ∷ ys) (suc k) x e = let h = within ys k x e in omega (arith, h)

module _ {A B : Type 0} (xs : List A) (f : B → A) (P : B → Type 0) where
  abbrev pub Below : ℕ → Type 0
  Below n = (k : ℕ) (x : B) → k < n → slice_get xs k ≡ Some (f x) → P x

  pub none_below : Below 0
  none_below k x lt e = absurd (omega (arith, lt))

  pub more_below : (n : ℕ) → Below n → ((x : B) → slice_get xs n ≡ Some (f x) → P x) → Below (n + 1)
  more_below n h own k x lt e =
      elim (cases_lt k n) [
        | inl l ↦ h k x l e
        | inr g ↦ own x (subst (λ i. slice_get xs i ≡ Some (f x)) (let same : k ≡ n = omega (arith, lt, g) in same) e)
      ]

  pub all_below : (n : ℕ) → length xs ≤ n → Below n → (k : ℕ) (x : B) → slice_get xs k ≡ Some (f x) → P x
  all_below n le h k x e = let inside = within xs k (f x) e in h k x (omega (arith, inside, le)) e
