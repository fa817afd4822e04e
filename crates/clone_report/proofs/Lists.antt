-- What is among lists, and tests of all and of some.
use Rattle.std.proofs.Common.{◌≡◌, ◌∙◌, ◌⊎◌, inl, inr, ℕ, zero, suc, Bool, true, false, List, [], ◌∷◌, ◌++◌, Some, slice_get, refl, sym, ap, subst}
use Rattle.std.specs.Prelude.{◌&&◌, ◌||◌}
use Rattle.std.specs.List.{list_all, list_any}
use Rattle.std.proofs.lemmas.Bool.{and_parts, and_from}
use Rattle.std.proofs.lemmas.Option.{same_Some}
use Rattle.clone_classes.specs.Classes.{Among}

pub among-front : {A : Type 0} (xs ys : List A) (x : A) → Among xs x → Among (xs ++ ys) x
among-front [] ys x h = absurd h
among-front (y ∷ xs) ys x (inl e) = inl e
among-front (y ∷ xs) ys x (inr h) = inr (among-front xs ys x h)

pub among-back : {A : Type 0} (xs ys : List A) (x : A) → Among ys x → Among (xs ++ ys) x
among-back [] ys x h = h
among-back (y ∷ xs) ys x h = inr (among-back xs ys x h)

pub among-either : {A : Type 0} (xs ys : List A) (x : A) → Among (xs ++ ys) x → Among xs x ⊎ Among ys x
among-either [] ys x h = inr h
among-either (y ∷ xs) ys x (inl e) = inl (inl e)
among-either (y ∷ xs) ys x (inr h) = elim (among-either xs ys x h) [ inl a ↦ inl (inr a) | inr b ↦ inr b ]

-- what is found at a place is among the list, and what is among it is found at a place
pub among-there : {A : Type 0} (xs : List A) (n : ℕ) (x : A) → slice_get xs n ≡ Some x → Among xs x
among-there [] n x e = cc
among-there (y ∷ xs) zero x e = inl (sym (same_Some y x e))
among-there (y ∷ xs) (suc n) x e = inr (among-there xs n x e)

pub record Place {A : Type 0} (xs : List A) (x : A) : Type 0 where
  pub number : ℕ
  pub there : slice_get xs number ≡ Some x

pub place-of : {A : Type 0} (xs : List A) (x : A) → Among xs x → Place xs x
place-of [] x h = absurd h
place-of (y ∷ xs) x (inl e) = record { number = 0; there = ap Some (sym e) }
place-of (y ∷ xs) x (inr h) = let p = place-of xs x h in record { number = suc p.number; there = p.there }

-- ---- tests

pub all-among : {A : Type 0} (test : A → Bool) (xs : List A) → list_all test xs ≡ true → (x : A) → Among xs x → test x ≡ true
all-among test [] h x k = absurd k
all-among {A} test (y ∷ xs) h x (inl e) = subst (λ (z : A). test z ≡ true) (sym e) (and_parts (test y) (list_all test xs) h).0
all-among test (y ∷ xs) h x (inr k) = all-among test xs (and_parts (test y) (list_all test xs) h).1 x k

pub among-all : {A : Type 0} (test : A → Bool) (xs : List A) → ((x : A) → Among xs x → test x ≡ true) → list_all test xs ≡ true
among-all test [] h = refl
among-all test (y ∷ xs) h = and_from (test y) (list_all test xs) (h y (inl refl)) (among-all test xs (λ x k. h x (inr k)))

or-left : (p q : Bool) → p ≡ true → (p || q) ≡ true
or-left true q e = refl
or-left false q e = cc

or-right : (p q : Bool) → q ≡ true → (p || q) ≡ true
or-right true q e = refl
or-right false q e = e

pub any-among : {A : Type 0} (test : A → Bool) (xs : List A) (x : A) → test x ≡ true → Among xs x → list_any test xs ≡ true
any-among test [] x h k = absurd k
any-among test (y ∷ xs) x h (inl e) = or-left (test y) (list_any test xs) (sym (ap test e) ∙ h)
any-among test (y ∷ xs) x h (inr k) = or-right (test y) (list_any test xs) (any-among test xs x h k)

pub record Passes {A : Type 0} (test : A → Bool) (xs : List A) : Type 0 where
  pub one : A
  pub holds : test one ≡ true
  pub among : Among xs one

pub some-pass : {A : Type 0} (test : A → Bool) (xs : List A) → list_any test xs ≡ true → Passes test xs
some-pass test [] h = cc
some-pass {A} test (y ∷ xs) h = step (λ k. some-pass test xs k) (test y) refl h where
  step : (list_any test xs ≡ true → Passes test xs) → (b : Bool) → test y ≡ b → (b || list_any test xs) ≡ true → Passes test (y ∷ xs)
  step below true e k = record { one = y; holds = e; among = inl refl }
  step below false e k = let p = below k in record { one = p.one; holds = p.holds; among = inr p.among }

or-mixed : (a b c d : Bool) → ((a || b) || (c || d)) ≡ ((a || c) || (b || d))
or-mixed true b c d = refl
or-mixed false true true d = refl
or-mixed false true false d = refl
or-mixed false false c d = refl

pub any-or : {A : Type 0} (f g : A → Bool) (xs : List A) → list_any (λ x. f x || g x) xs ≡ (list_any f xs || list_any g xs)
any-or f g [] = refl
any-or f g (x ∷ xs) = ap (λ b. (f x || g x) || b) (any-or f g xs) ∙ or-mixed (f x) (g x) (list_any f xs) (list_any g xs)

pub any-equal : {A : Type 0} (f g : A → Bool) → ((x : A) → f x ≡ g x) → (xs : List A) → list_any f xs ≡ list_any g xs
any-equal f g e [] = refl
any-equal f g e (x ∷ xs) = ap (λ b. b || list_any f xs) (e x) ∙ ap (λ b. g x || b) (any-equal f g e xs)

pub any-join : {A : Type 0} (f : A → Bool) (xs ys : List A) → list_any f (xs ++ ys) ≡ (list_any f xs || list_any f ys)
any-join f [] ys = refl
any-join f (x ∷ xs) ys = ap (λ b. f x || b) (any-join f xs ys) ∙ or_assoc (f x) (list_any f xs) (list_any f ys) where
  or_assoc : (a b c : Bool) → (a || (b || c)) ≡ ((a || b) || c)
  or_assoc true b c = refl
  or_assoc false b c = refl

-- two truth values of which each makes the other true are one
pub both-ways : (a b : Bool) → (a ≡ true → b ≡ true) → (b ≡ true → a ≡ true) → a ≡ b
both-ways true b f g = sym (f refl)
both-ways false true f g = g refl
both-ways false false f g = refl

pub and-assoc : (a b c : Bool) → (a && (b && c)) ≡ ((a && b) && c)
and-assoc true b c = refl
and-assoc false b c = refl
