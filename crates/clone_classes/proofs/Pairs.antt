-- Pairs that are one to one, in words.
use Rattle.std.proofs.Common.{◌≡◌, ℕ, Bool, true, false, List, [], ◌∷◌, refl, sym, ◌∙◌, inl, inr, subst}
use Rattle.std.specs.Prelude.{nat_eq}
use Rattle.std.specs.List.{list_all}
use Rattle.std.proofs.lemmas.Bool.{eqb-true, eq-eqb, and_parts, and_from}
use Rattle.clone_window.specs.Sameness.{is_iff, fits_pair, is_one_to_one}
use Rattle.clone_classes.specs.Classes.{Among, Agree}

all-among : {A : Type 0} (test : A → Bool) (xs : List A) → list_all test xs ≡ true → (x : A) → Among xs x → test x ≡ true
all-among test [] h x k = absurd k
all-among {A} test (y ∷ xs) h x (inl e) = subst (λ (z : A). test z ≡ true) (sym e) (and_parts (test y) (list_all test xs) h).0
all-among test (y ∷ xs) h x (inr k) = all-among test xs (and_parts (test y) (list_all test xs) h).1 x k

among-all : {A : Type 0} (test : A → Bool) (xs : List A) → ((x : A) → Among xs x → test x ≡ true) → list_all test xs ≡ true
among-all test [] h = refl
among-all test (y ∷ xs) h = and_from (test y) (list_all test xs) (h y (inl refl)) (among-all test xs (λ x k. h x (inr k)))

equal-tests : (a b : Bool) → is_iff a b ≡ true → a ≡ b
equal-tests true true h = refl
equal-tests true false h = cc
equal-tests false true h = cc
equal-tests false false h = refl

fits-agree : (p q : ℕ × ℕ) → fits_pair p q ≡ true → Agree p q
fits-agree p q h =
    let e : nat_eq p.0 q.0 ≡ nat_eq p.1 q.1 = equal-tests (nat_eq p.0 q.0) (nat_eq p.1 q.1) h in
    ((λ i. eqb-true p.1 q.1 (sym e ∙ eq-eqb p.0 q.0 i)), (λ j. eqb-true p.0 q.0 (e ∙ eq-eqb p.1 q.1 j)))

contrary : (b : Bool) → b ≡ true → b ≡ false → ⊥
contrary b e f = let c : true ≡ false = sym e ∙ f in cc

agree-fits : (p q : ℕ × ℕ) → Agree p q → fits_pair p q ≡ true
agree-fits p q h = step (nat_eq p.0 q.0) (nat_eq p.1 q.1) refl refl where
  step : (a b : Bool) → nat_eq p.0 q.0 ≡ a → nat_eq p.1 q.1 ≡ b → is_iff a b ≡ true
  step true true e f = refl
  step true false e f = absurd (contrary (nat_eq p.1 q.1) (eq-eqb p.1 q.1 (h.0 (eqb-true p.0 q.0 e))) f)
  step false true e f = absurd (contrary (nat_eq p.0 q.0) (eq-eqb p.0 q.0 (h.1 (eqb-true p.1 q.1 f))) e)
  step false false e f = refl

pub one-to-one-agrees : (pairs : List (ℕ × ℕ)) → is_one_to_one pairs ≡ true → (p q : ℕ × ℕ) → Among pairs p → Among pairs q → Agree p q
one-to-one-agrees pairs h p q a b = fits-agree p q (all-among (fits_pair p) pairs (all-among (λ r. list_all (fits_pair r) pairs) pairs h p a) q b)

pub agreeing-one-to-one : (pairs : List (ℕ × ℕ)) → ((p q : ℕ × ℕ) → Among pairs p → Among pairs q → Agree p q) → is_one_to_one pairs ≡ true
agreeing-one-to-one pairs h = among-all (λ p. list_all (fits_pair p) pairs) pairs (λ p a. among-all (fits_pair p) pairs (λ q b. agree-fits p q (h p q a b)))
