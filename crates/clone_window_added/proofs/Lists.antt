-- Lists, and what all their elements have.
use Rattle.std.proofs.Common.{◌≡◌, ◌∙◌, ◌<◌, ◌≤◌, ℕ, zero, suc, List, [], ◌∷◌, ◌++◌, length, Option, Some, None, slice_get, ap, refl, sym, subst, arith}
use Rattle.std.specs.List.{AllByRecursion}

pub some_there : {A : Type 0} (x y : A) → ◌≡◌ {A = Option A} (Some x) (Some y) → x ≡ y
some_there x y e = cc

pub not_there : {A B : Type 0} (x : A) → ◌≡◌ {A = Option A} None (Some x) → B
not_there x e = cc

pub same_list : {A : Type 0} (xs ys : List A) → ((k : ℕ) → slice_get ys k ≡ slice_get xs k) → ys ≡ xs
same_list [] [] h = refl
same_list [] (y ∷ ys) h = not_there y (sym (h zero))
same_list (x ∷ xs) [] h = not_there x (h zero)
same_list (x ∷ xs) (y ∷ ys) h = ap (λ z. z ∷ ys) (some_there y x (h zero)) ∙ ap (λ zs. x ∷ zs) (same_list xs ys (λ k. h (suc k)))

-- ---- where an element stands

pub in_range : {A : Type 0} (xs : List A) (n : ℕ) (x : A) → slice_get xs n ≡ Some x → n < length xs
in_range [] n x e = not_there x e
in_range (y ∷ ys) zero x e = omega arith
in_range (y ∷ ys) (suc n) x e = let l = in_range ys n x e in omega (arith, l)

pub none_there : {A : Type 0} (xs : List A) (n : ℕ) → length xs ≤ n → slice_get xs n ≡ None
none_there [] n l = refl
none_there (x ∷ xs) zero l = absurd (omega (arith, l))
none_there (x ∷ xs) (suc n) l = none_there xs n (omega (arith, l))

pub some_at : {A : Type 0} (xs : List A) (n : ℕ) → n < length xs → (x : A) × (slice_get xs n ≡ Some x)
some_at [] n l = absurd (omega (arith, l))
some_at (x ∷ xs) zero l = (x, refl)
some_at (x ∷ xs) (suc n) l = some_at xs n (omega (arith, l))

-- ---- what all elements have

module _ {A : Type 0} (P : A → Type 0) where
  pub all_both : (xs ys : List A) → AllByRecursion P xs → AllByRecursion P ys → AllByRecursion P (xs ++ ys)
  all_both [] ys f g = g
  all_both (x ∷ xs) ys f g = (f.0, all_both xs ys f.1 g)

  pub all_in_front : (xs ys : List A) → AllByRecursion P (xs ++ ys) → AllByRecursion P xs
  all_in_front [] ys h = tt
  all_in_front (x ∷ xs) ys h = (h.0, all_in_front xs ys h.1)

  pub all_behind : (xs ys : List A) → AllByRecursion P (xs ++ ys) → AllByRecursion P ys
  all_behind [] ys h = h
  all_behind (x ∷ xs) ys h = all_behind xs ys h.1

  pub there : (xs : List A) (i : ℕ) (x : A) → AllByRecursion P xs → slice_get xs i ≡ Some x → P x
  there [] i x h e = not_there x e
  there (y ∷ ys) zero x h e = subst P (some_there y x e) h.0
  there (y ∷ ys) (suc i) x h e = there ys i x h.1 e
