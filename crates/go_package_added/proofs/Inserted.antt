-- Lists with one element put in, and the numbers of the others.
use Rattle.std.proofs.Common.{◌≡◌, ◌∙◌, ℕ, zero, suc, ◌≤◌, Bool, true, false, List, [], ◌∷◌, ◌++◌, length, map, Some, refl, ap, arith}
use Rattle.std.specs.Prelude.{if◌then◌else◌, nat_lt, slice_get}
use Rattle.std.specs.List.{AllByRecursion}
use Rattle.std.proofs.lemmas.Bool.Decides.{nat_tests}
use Rattle.go_heads_added.specs.Added.{beyond}
use Rattle.go_package_added.specs.OneMore.{inserted}

-- ---- numbers

pub beyond_first : (n : ℕ) → beyond zero n ≡ suc n
beyond_first n = ap (λ b. if b then n else suc n) (let z : nat_lt n zero ≡ false = grind (arith, nat_tests) in z)

pub beyond_zero : (a : ℕ) → beyond (suc a) zero ≡ zero
beyond_zero a = ap (λ b. if b then zero else suc zero) (let z : nat_lt zero (suc a) ≡ true = grind (arith, nat_tests) in z)

pub beyond_suc : (a n : ℕ) → beyond (suc a) (suc n) ≡ suc (beyond a n)
beyond_suc a n = ap (λ b. if b then suc n else suc (suc n)) (let z : nat_lt (suc n) (suc a) ≡ nat_lt n a = grind (arith, nat_tests) in z) ∙ by (nat_lt n a)
  where
    by : (b : Bool) → (if b then suc n else suc (suc n)) ≡ suc (if b then n else suc n)
    by true = refl
    by false = refl

-- ---- elements

module _ {A : Type 0} where
  pub other_there : (a : ℕ) (x : A) (ys : List A) (n : ℕ) → a ≤ length ys → slice_get (inserted a x ys) (beyond a n) ≡ slice_get ys n
  other_there zero x ys n h = ap (slice_get (x ∷ ys)) (beyond_first n)
  other_there (suc a) x [] n h = absurd (omega (arith, h))
  other_there (suc a) x (y ∷ ys) zero h = ap (slice_get (y ∷ inserted a x ys)) (beyond_zero a)
  other_there (suc a) x (y ∷ ys) (suc n) h = ap (slice_get (y ∷ inserted a x ys)) (beyond_suc a n) ∙ other_there a x ys n (omega (arith, h))

  pub new_there : (a : ℕ) (x : A) (ys : List A) → a ≤ length ys → slice_get (inserted a x ys) a ≡ Some x
  new_there zero x ys h = refl
  new_there (suc a) x [] h = absurd (omega (arith, h))
  new_there (suc a) x (y ∷ ys) h = new_there a x ys (omega (arith, h))

  pub length_inserted : (a : ℕ) (x : A) (ys : List A) → length (inserted a x ys) ≡ suc (length ys)
  length_inserted zero x ys = refl
  length_inserted (suc a) x [] = refl
  length_inserted (suc a) x (y ∷ ys) = ap suc (length_inserted a x ys)

pub map_inserted : {A B : Type 0} (f : A → B) (a : ℕ) (x : A) (ys : List A) → map f (inserted a x ys) ≡ inserted a (f x) (map f ys)
map_inserted f zero x ys = refl
map_inserted f (suc a) x [] = refl
map_inserted f (suc a) x (y ∷ ys) = ap (λ zs. f y ∷ zs) (map_inserted f a x ys)

-- ---- other lists

pub mapped_count : {A B : Type 0} (f : A → B) (xs : List A) → length (map f xs) ≡ length xs
mapped_count f [] = refl
mapped_count f (x ∷ xs) = ap suc (mapped_count f xs)

pub map_both : {A B : Type 0} (f : A → B) (xs ys : List A) → map f (xs ++ ys) ≡ map f xs ++ map f ys
map_both f [] ys = refl
map_both f (x ∷ xs) ys = ap (λ l. f x ∷ l) (map_both f xs ys)

pub front_of : {A : Type 0} (P : A → Type 0) (xs ys : List A) → AllByRecursion P (xs ++ ys) → AllByRecursion P xs
front_of P [] ys h = tt
front_of P (x ∷ xs) ys h = (h.0, front_of P xs ys h.1)

pub rest_of : {A : Type 0} (P : A → Type 0) (xs ys : List A) → AllByRecursion P (xs ++ ys) → AllByRecursion P ys
rest_of P [] ys h = h
rest_of P (x ∷ xs) ys h = rest_of P xs ys h.1
