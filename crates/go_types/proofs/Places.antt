-- Elements of lists by their places.
use Rattle.std.proofs.Common.{◌≡◌, ℕ, zero, suc, ◌+◌, ◌<◌, ◌⊎◌, inl, inr, List, [], ◌∷◌, ◌++◌, Some, take, length, refl, sym, ◌∙◌, ap, subst, arith}
use Rattle.std.specs.Prelude.{slice_get, slice_set, Bool, true, false, nat_lt, ◌&&◌}
use Rattle.std.proofs.lemmas.Bool.{ltb-true, lt-ltb}
use Rattle.std.specs.List.{AllByRecursion, list_all}
use Rattle.std.proofs.lemmas.Bool.Decides.{eqb_tells}

-- an element of a longer list
pub get_left : {X : Type 0} (xs ys : List X) (i : ℕ) (x : X) → slice_get xs i ≡ Some x → slice_get (xs ++ ys) i ≡ Some x
get_left [] ys i x e = cc
get_left (z ∷ zs) ys zero x e = e
get_left (z ∷ zs) ys (suc i) x e = get_left zs ys i x e

pub get_within : {X : Type 0} (xs : List X) (i : ℕ) (x : X) → slice_get xs i ≡ Some x → i < length xs
get_within [] i x e = cc
get_within (z ∷ zs) zero x e = omega arith
get_within (z ∷ zs) (suc i) x e = let h : i < length zs = get_within zs i x e in omega arith

-- an element of a list with one more
pub get_snoc : {X : Type 0} (xs : List X) (y : X) (i : ℕ) (x : X) → slice_get (xs ++ y ∷ []) i ≡ Some x → (slice_get xs i ≡ Some x) ⊎ ((i ≡ length xs) × (x ≡ y))
get_snoc [] y zero x e = let same : x ≡ y = cc in inr (refl, same)
get_snoc [] y (suc i) x e = cc
get_snoc (z ∷ zs) y zero x e = inl e
get_snoc (z ∷ zs) y (suc i) x e = elim (get_snoc zs y i x e) [ inl h ↦ inl h | inr h ↦ let p : i ≡ length zs = h.0 in inr (omega arith, h.1) ]

pub get_last : {X : Type 0} (xs : List X) (y : X) → slice_get (xs ++ y ∷ []) (length xs) ≡ Some y
get_last [] y = refl
get_last (z ∷ zs) y = get_last zs y

pub get_take : {X : Type 0} (n : ℕ) (xs : List X) (i : ℕ) (x : X) → slice_get (take n xs) i ≡ Some x → (slice_get xs i ≡ Some x) × (i < n)
get_take zero xs i x e = cc
get_take (suc n) [] i x e = cc
get_take (suc n) (z ∷ zs) zero x e = (e, omega arith)
get_take (suc n) (z ∷ zs) (suc i) x e = let h = get_take n zs i x e in let p : i < n = h.1 in (h.0, omega arith)

pub take_get : {X : Type 0} (n : ℕ) (xs : List X) (i : ℕ) (x : X) → slice_get xs i ≡ Some x → i < n → slice_get (take n xs) i ≡ Some x
take_get zero xs i x e h = absurd (omega arith)
take_get (suc n) [] i x e h = e
take_get (suc n) (z ∷ zs) zero x e h = e
take_get (suc n) (z ∷ zs) (suc i) x e h = take_get n zs i x e (omega arith)

-- an element that is put in
pub get_set_same : {X : Type 0} (xs : List X) (i : ℕ) (y : X) → i < length xs → slice_get (slice_set xs i y) i ≡ Some y
get_set_same [] i y h = absurd (omega arith)
get_set_same (z ∷ zs) zero y h = refl
get_set_same (z ∷ zs) (suc i) y h = get_set_same zs i y (omega arith)

pub get_set : {X : Type 0} (xs : List X) (i : ℕ) (y : X) (j : ℕ) (x : X) → slice_get (slice_set xs i y) j ≡ Some x → (slice_get xs j ≡ Some x) ⊎ ((j ≡ i) × (x ≡ y))
get_set [] i y j x e = inl e
get_set (z ∷ zs) zero y zero x e = let same : x ≡ y = cc in inr (refl, same)
get_set (z ∷ zs) zero y (suc j) x e = inl e
get_set (z ∷ zs) (suc i) y zero x e = inl e
get_set (z ∷ zs) (suc i) y (suc j) x e = elim (get_set zs i y j x e) [ inl h ↦ inl h | inr h ↦ let p : j ≡ i = h.0 in inr (omega arith, h.1) ]

pub get_there : {X : Type 0} (xs : List X) (i : ℕ) → i < length xs → (x : X) × (slice_get xs i ≡ Some x)
get_there [] i h = absurd (omega arith)
get_there (z ∷ zs) zero h = (z, refl)
get_there (z ∷ zs) (suc i) h = get_there zs i (omega arith)

-- what holds of all elements holds of one
pub all_at : {X : Type 0} (P : X → Type 0) (xs : List X) (i : ℕ) (x : X) → AllByRecursion P xs → slice_get xs i ≡ Some x → P x
all_at P [] i x a e = cc
all_at P (z ∷ zs) zero x a e = let same : z ≡ x = cc in subst P same a.0
all_at P (z ∷ zs) (suc i) x a e = all_at P zs i x a.1 e

pub all_of : {X : Type 0} (P Q : X → Type 0) (xs : List X) → ((x : X) → P x → Q x) → AllByRecursion P xs → AllByRecursion Q xs
all_of P Q [] f a = tt
all_of P Q (z ∷ zs) f a = (f z a.0, all_of P Q zs f a.1)

pub get_set_other : {X : Type 0} (xs : List X) (i : ℕ) (y : X) (j : ℕ) (x : X) → slice_get xs j ≡ Some x → (j ≡ i → ⊥) → slice_get (slice_set xs i y) j ≡ Some x
get_set_other [] i y j x e n = cc
get_set_other (z ∷ zs) zero y zero x e n = absurd (n refl)
get_set_other (z ∷ zs) zero y (suc j) x e n = e
get_set_other (z ∷ zs) (suc i) y zero x e n = e
get_set_other (z ∷ zs) (suc i) y (suc j) x e n = get_set_other zs i y j x e (λ h. n (ap suc h))

-- what holds of the elements before a place and of the one there holds of those before the next place
pub one_further : {X : Type 0} (P : X → Type 0) (xs : List X) (i : ℕ) (y : X) → slice_get xs i ≡ Some y → P y → ((k : ℕ) (x : X) → k < i → slice_get xs k ≡ Some x → P x) → (k : ℕ) (x : X) → k < i + 1 → slice_get xs k ≡ Some x → P x
one_further P xs i y there here before k x l e =
    elim (eqb_tells k i) [
      | inl same ↦ let at : k ≡ i = same.1 in let equal : y ≡ x = some_same (sym there ∙ (ap (slice_get xs) (sym at) ∙ e)) in subst P equal here
      | inr other ↦ let apart = other.1 in before k x (omega (arith, l, apart)) e
    ]
  where
    some_same : {A : Type 0} {a b : A} → Some a ≡ Some b → a ≡ b
    some_same e = cc

-- numbers that are all tested to be below one
pub below_from_test : (n : ℕ) (xs : List ℕ) → list_all (λ p. nat_lt p n) xs ≡ true → AllByRecursion (λ p. p < n) xs
below_from_test n [] t = tt
below_from_test n (x ∷ xs) t = by (nat_lt x n) refl (below_from_test n xs)
  where
    by : (b : Bool) → nat_lt x n ≡ b → (list_all (λ p. nat_lt p n) xs ≡ true → AllByRecursion (λ p. p < n) xs) → AllByRecursion (λ p. p < n) (x ∷ xs)
    by true e rest = (ltb-true x n e, rest (ap (λ b. b && list_all (λ p. nat_lt p n) xs) (sym e) ∙ t))
    by false e rest = let wrong : false ≡ true = ap (λ b. b && list_all (λ p. nat_lt p n) xs) (sym e) ∙ t in cc

pub test_from_below : (n : ℕ) (xs : List ℕ) → AllByRecursion (λ p. p < n) xs → list_all (λ p. nat_lt p n) xs ≡ true
test_from_below n [] a = refl
test_from_below n (x ∷ xs) a = ap (λ b. b && list_all (λ p. nat_lt p n) xs) (lt-ltb x n a.0) ∙ test_from_below n xs a.1
