-- Lists of places, and tests.
use Rattle.std.proofs.Common.{◌≡◌, ◌∙◌, Bool, true, false, List, [], ◌∷◌, ◌++◌, refl, ap}
use Rattle.std.specs.Prelude.{◌&&◌, ◌||◌}
use Rattle.go_tree.specs.Failures.{place_if}
use Rattle.go_tree.specs.Units.{Place}

-- ---- lists

pub none_left : {A : Type 0} (xs ys : List A) → xs ++ ys ≡ [] → xs ≡ []
none_left [] ys e = refl
none_left (x ∷ xs) ys e = cc

pub none_right : {A : Type 0} (xs ys : List A) → xs ++ ys ≡ [] → ys ≡ []
none_right [] ys e = e
none_right (x ∷ xs) ys e = cc

pub none_both : {A : Type 0} (xs ys : List A) → xs ≡ [] → ys ≡ [] → xs ++ ys ≡ []
none_both xs ys e f = ap (λ zs. zs ++ ys) e ∙ f

-- ---- places

pub place_both : (b : Bool) (s : Place) (ps qs : List Place) → place_if b s (ps ++ qs) ≡ place_if b s ps ++ qs
place_both true s ps qs = refl
place_both false s ps qs = refl

pub no_place : (b : Bool) (s : Place) (ss : List Place) → place_if b s ss ≡ [] → (b ≡ false) × (ss ≡ [])
no_place true s ss e = cc
no_place false s ss e = (refl, e)

pub a_place : (b : Bool) (s : Place) (ss : List Place) → b ≡ false → ss ≡ [] → place_if b s ss ≡ []
a_place true s ss e f = cc
a_place false s ss e f = f

-- there is none where the same test is made and there was none behind
pub place_to : (b c : Bool) (s t : Place) (ss ts : List Place) → b ≡ c → (ss ≡ [] → ts ≡ []) → place_if b s ss ≡ [] → place_if c t ts ≡ []
place_to true true s t ss ts e f g = cc
place_to true false s t ss ts e f g = cc
place_to false true s t ss ts e f g = cc
place_to false false s t ss ts e f g = f g

-- ---- tests

pub or_left : (a b : Bool) → (a || b) ≡ false → a ≡ false
or_left true b e = e
or_left false b e = refl

pub or_right : (a b : Bool) → (a || b) ≡ false → b ≡ false
or_right true b e = cc
or_right false b e = e

pub or_both : (a b : Bool) → a ≡ false → b ≡ false → (a || b) ≡ false
or_both true b e f = e
or_both false b e f = f

pub or_assoc : (x y z : Bool) → (x || (y || z)) ≡ ((x || y) || z)
or_assoc true y z = refl
or_assoc false y z = refl

pub or_nothing : (b : Bool) → (b || false) ≡ b
or_nothing true = refl
or_nothing false = refl

pub first_false : (a b c : Bool) → a ≡ false → (a && b && c) ≡ false
first_false true b c e = ap (λ z. z && b && c) e
first_false false b c e = refl

pub second_false : (a b c : Bool) → b ≡ false → (a && b && c) ≡ false
second_false true b c e = ap (λ z. z && c) e
second_false false b c e = refl

pub third_false : (a b c : Bool) → c ≡ false → (a && b && c) ≡ false
third_false true true c e = e
third_false true false c e = refl
third_false false b c e = refl
