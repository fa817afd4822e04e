-- Elements outside: how many there are, and where each stands.
use Rattle.std.proofs.Common.{◌≡◌, ℕ, zero, suc, ◌+◌, ◌-◌, ◌<◌, ◌≤◌, Bool, true, false, List, [], ◌∷◌, map, refl, sym, ap, ◌∙◌, subst, length, arith}
use Rattle.std.specs.Prelude.{slice_get, if◌then◌else◌}
use Rattle.go_heads.specs.Heads.{outside, place_outside}

map_step : {A B : Type 0} (f : A → B) (x : A) (ys : List B) (xs : List A) (b : Bool) → ys ≡ map f xs → (if b then ys else f x ∷ ys) ≡ map f (if b then xs else x ∷ xs)
map_step f x ys xs true e = e
map_step f x ys xs false e = ap (λ l. f x ∷ l) e

pub map_outside : {A B : Type 0} (f : A → B) (p : ℕ → Bool) (n : ℕ) (xs : List A) → outside p n (map f xs) ≡ map f (outside p n xs)
map_outside f p n [] = refl
map_outside f p n (x ∷ xs) = map_step f x (outside p (suc n) (map f xs)) (outside p (suc n) xs) (p n) (map_outside f p (suc n) xs)

module _ (p : ℕ → Bool) where
  -- a place behind a token that stays, and behind one that doesn't
  pub place_next : (n : ℕ) → p n ≡ false → place_outside p (suc n) ≡ suc (place_outside p n)
  place_next n e = ap (λ b. if b then place_outside p n else suc (place_outside p n)) e

  pub place_same : (n : ℕ) → p n ≡ true → place_outside p (suc n) ≡ place_outside p n
  place_same n e = ap (λ b. if b then place_outside p n else suc (place_outside p n)) e

  place_grows : (n : ℕ) → place_outside p n ≤ place_outside p (suc n)
  place_grows n = go (p n)
    where
      go : (b : Bool) → place_outside p n ≤ (if b then place_outside p n else suc (place_outside p n))
      go true = omega arith
      go false = omega arith

  pub place_order : (n k : ℕ) → place_outside p n ≤ place_outside p (n + k)
  place_order n zero = subst (λ x. place_outside p n ≤ place_outside p x) (let e : n ≡ n + 0 = omega arith in e) (omega arith)
  place_order n (suc k) = subst (λ x. place_outside p n ≤ place_outside p x) (let e : suc (n + k) ≡ n + suc k = omega arith in e) (omega (arith, place_order n k, place_grows (n + k)))

  -- where all stay, and where none does
  pub places_stay : (i k : ℕ) → ((n : ℕ) → i ≤ n → n < i + k → p n ≡ false) → place_outside p (i + k) ≡ place_outside p i + k
  places_stay i zero h = let e : i + 0 ≡ i = omega arith in let z : place_outside p i + 0 ≡ place_outside p i = omega arith in ap (place_outside p) e ∙ sym z
  places_stay i (suc k) h =
      let e : i + suc k ≡ suc (i + k) = omega arith in
      ap (place_outside p) e ∙ place_next (i + k) (h (i + k) (omega arith) (omega arith))
      ∙ (let r : suc (place_outside p (i + k)) ≡ place_outside p i + suc k = omega (arith, places_stay i k (λ n lo hi. h n lo (omega (arith, hi)))) in r)

  pub places_same : (i k : ℕ) → ((n : ℕ) → i ≤ n → n < i + k → p n ≡ true) → place_outside p (i + k) ≡ place_outside p i
  places_same i zero h = let e : i + 0 ≡ i = omega arith in ap (place_outside p) e
  places_same i (suc k) h =
      let e : i + suc k ≡ suc (i + k) = omega arith in
      ap (place_outside p) e ∙ place_same (i + k) (h (i + k) (omega arith) (omega arith)) ∙ places_same i k (λ n lo hi. h n lo (omega (arith, hi)))

  module _ {A : Type 0} where
    abbrev grown : ℕ → A → List A → Bool → List A
    grown s x xs b = if b then outside p (suc s) xs else x ∷ outside p (suc s) xs

    step : (s : ℕ) (x : A) (xs : List A) (k : ℕ) (b : Bool) → p s ≡ b → slice_get (outside p (suc s) xs) (place_outside p (suc s + k) - place_outside p (suc s)) ≡ slice_get xs k
        → slice_get (outside p s (x ∷ xs)) (place_outside p (s + suc k) - place_outside p s) ≡ slice_get xs k
    step s x xs k true h rest =
        let move : s + suc k ≡ suc s + k = omega arith in
        let o : place_outside p (s + suc k) - place_outside p s ≡ place_outside p (suc s + k) - place_outside p (suc s) = omega (arith, ap (place_outside p) move, place_same s h) in
        ap (λ b. slice_get (grown s x xs b) (place_outside p (s + suc k) - place_outside p s)) h ∙ ap (slice_get (outside p (suc s) xs)) o ∙ rest
    step s x xs k false h rest =
        let move : s + suc k ≡ suc s + k = omega arith in
        let o : place_outside p (s + suc k) - place_outside p s ≡ suc (place_outside p (suc s + k) - place_outside p (suc s)) = omega (arith, ap (place_outside p) move, place_next s h, place_order (suc s) k) in
        ap (λ b. slice_get (grown s x xs b) (place_outside p (s + suc k) - place_outside p s)) h ∙ ap (slice_get (x ∷ outside p (suc s) xs)) o ∙ rest

    -- what stays stands at its place; s is the number of the first element
    stands_from : (s : ℕ) (xs : List A) (k : ℕ) → p (s + k) ≡ false → slice_get (outside p s xs) (place_outside p (s + k) - place_outside p s) ≡ slice_get xs k
    stands_from s [] k e = refl
    stands_from s (x ∷ xs) zero e =
        let z : s + 0 ≡ s = omega arith in
        let here : p s ≡ false = sym (ap p z) ∙ e in
        let o : place_outside p (s + 0) - place_outside p s ≡ 0 = omega (arith, ap (place_outside p) z) in
        ap (λ b. slice_get (grown s x xs b) (place_outside p (s + 0) - place_outside p s)) here ∙ ap (slice_get (x ∷ outside p (suc s) xs)) o
    stands_from s (x ∷ xs) (suc k) e =
        let move : s + suc k ≡ suc s + k = omega arith in
        step s x xs k (p s) refl (stands_from (suc s) xs k (sym (ap p move) ∙ e))

    pub stands_outside : (xs : List A) (n : ℕ) → p n ≡ false → slice_get (outside p 0 xs) (place_outside p n) ≡ slice_get xs n
    stands_outside xs n e =
        let z : 0 + n ≡ n = omega arith in
        let o : place_outside p n ≡ place_outside p (0 + n) - place_outside p 0 = omega (arith, ap (place_outside p) z) in
        ap (slice_get (outside p 0 xs)) o ∙ stands_from 0 xs n (ap p z ∙ e)

    length_step : (s : ℕ) (x : A) (xs : List A) (b : Bool) → p s ≡ b → length (outside p (suc s) xs) + place_outside p (suc s) ≡ place_outside p (suc s + length xs)
        → length (outside p s (x ∷ xs)) + place_outside p s ≡ place_outside p (s + suc (length xs))
    length_step s x xs true h rest =
        let move : s + suc (length xs) ≡ suc s + length xs = omega arith in
        ap (λ b. length (grown s x xs b) + place_outside p s) h ∙ omega (arith, rest, ap (place_outside p) move, place_same s h)
    length_step s x xs false h rest =
        let move : s + suc (length xs) ≡ suc s + length xs = omega arith in
        ap (λ b. length (grown s x xs b) + place_outside p s) h ∙ omega (arith, rest, ap (place_outside p) move, place_next s h)

    length_from : (s : ℕ) (xs : List A) → length (outside p s xs) + place_outside p s ≡ place_outside p (s + length xs)
    length_from s [] = let z : s + 0 ≡ s = omega arith in omega (arith, ap (place_outside p) z)
    length_from s (x ∷ xs) = length_step s x xs (p s) refl (length_from (suc s) xs)

    pub length_outside : (xs : List A) → length (outside p 0 xs) ≡ place_outside p (length xs)
    length_outside xs = let z : 0 + length xs ≡ length xs = omega arith in omega (arith, length_from 0 xs, ap (place_outside p) z)
