-- Pairs of locals: one to one is an equivalence, and so is what the two of a pair stand for.
use Rattle.std.proofs.Common.{◌≡◌, ℕ, Bool, true, false, List, [], ◌∷◌, length, refl, arith}
use Rattle.std.specs.Prelude.{nat_eq}
use Rattle.std.proofs.lemmas.Bool.{and_parts, and_from}
use Rattle.std.specs.List.{list_all, zip}
use Rattle.clone_window.specs.Sameness.{is_iff, is_one_to_one}

iff-refl : (p : Bool) → is_iff p p ≡ true
iff-refl true = refl
iff-refl false = refl

iff-sym : (p q : Bool) → is_iff p q ≡ true → is_iff q p ≡ true
iff-sym true true h = refl
iff-sym true false h = cc
iff-sym false true h = cc
iff-sym false false h = refl

iff-trans : (p q r : Bool) → is_iff p q ≡ true → is_iff q r ≡ true → is_iff p r ≡ true
iff-trans true true r h g = g
iff-trans true false r h g = cc
iff-trans false true r h g = cc
iff-trans false false r h g = g

-- A test holds of all pairs of two lists.
abbrev pub holds_along : (ℕ → ℕ → Bool) → List ℕ → List ℕ → Bool
holds_along test xs ys = list_all (λ p. test p.0 p.1) (zip xs ys)

pub along-refl : (test : ℕ → ℕ → Bool) → ((x : ℕ) → test x x ≡ true) → (xs : List ℕ) → holds_along test xs xs ≡ true
along-refl test h [] = refl
along-refl test h (x ∷ xs) = and_from (test x x) (holds_along test xs xs) (h x) (along-refl test h xs)

pub along-sym : (there back : ℕ → ℕ → Bool) → ((x y : ℕ) → there x y ≡ true → back y x ≡ true) →
    (xs ys : List ℕ) → holds_along there xs ys ≡ true → holds_along back ys xs ≡ true
along-sym there back turn [] [] h = refl
along-sym there back turn [] (y ∷ ys) h = refl
along-sym there back turn (x ∷ xs) [] h = refl
along-sym there back turn (x ∷ xs) (y ∷ ys) h =
    let p = and_parts (there x y) (holds_along there xs ys) h in
    and_from (back y x) (holds_along back ys xs) (turn x y p.0) (along-sym there back turn xs ys p.1)

pub along-trans : (first second both : ℕ → ℕ → Bool) → ((x y z : ℕ) → first x y ≡ true → second y z ≡ true → both x z ≡ true) →
    (xs ys zs : List ℕ) → length xs ≡ length ys → length ys ≡ length zs →
    holds_along first xs ys ≡ true → holds_along second ys zs ≡ true → holds_along both xs zs ≡ true
along-trans first second both join [] ys zs e f h g = refl
along-trans first second both join (x ∷ xs) [] zs e f h g = absurd (omega arith)
along-trans first second both join (x ∷ xs) (y ∷ ys) [] e f h g = refl
along-trans first second both join (x ∷ xs) (y ∷ ys) (z ∷ zs) e f h g =
    let p = and_parts (first x y) (holds_along first xs ys) h in
    let q = and_parts (second y z) (holds_along second ys zs) g in
    and_from (both x z) (holds_along both xs zs) (join x y z p.0 q.0)
    (along-trans first second both join xs ys zs (omega arith) (omega arith) p.1 q.1)

-- Whether a pair fits all pairs of two lists.
abbrev pub fits : List ℕ → List ℕ → ℕ → ℕ → Bool
fits us vs x y = holds_along (λ u v. is_iff (nat_eq x u) (nat_eq y v)) us vs

pub one-refl : (xs : List ℕ) → is_one_to_one (zip xs xs) ≡ true
one-refl xs = along-refl (fits xs xs) (λ x. along-refl (λ u v. is_iff (nat_eq x u) (nat_eq x v)) (λ u. iff-refl (nat_eq x u)) xs) xs

pub one-sym : (xs ys : List ℕ) → is_one_to_one (zip xs ys) ≡ true → is_one_to_one (zip ys xs) ≡ true
one-sym xs ys h =
    along-sym (fits xs ys) (fits ys xs)
    (λ x y. along-sym (λ u v. is_iff (nat_eq x u) (nat_eq y v)) (λ v u. is_iff (nat_eq y v) (nat_eq x u)) (λ u v. iff-sym (nat_eq x u) (nat_eq y v)) xs ys)
    xs ys h

pub one-trans : (xs ys zs : List ℕ) → length xs ≡ length ys → length ys ≡ length zs →
    is_one_to_one (zip xs ys) ≡ true → is_one_to_one (zip ys zs) ≡ true → is_one_to_one (zip xs zs) ≡ true
one-trans xs ys zs e f h g =
    along-trans (fits xs ys) (fits ys zs) (fits xs zs)
    (λ x y z. along-trans (λ u v. is_iff (nat_eq x u) (nat_eq y v)) (λ v w. is_iff (nat_eq y v) (nat_eq z w)) (λ u w. is_iff (nat_eq x u) (nat_eq z w))
    (λ u v w. iff-trans (nat_eq x u) (nat_eq y v) (nat_eq z w)) xs ys zs e f)
    xs ys zs e f h g
