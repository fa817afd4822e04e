-- Clone classes: groups of two or more windows that are the same, found by comparing every window with every other.
use Rattle.std.specs.Prelude.{◌≡◌, ℕ, Bool, true, List, [], ◌∷◌, ◌++◌, filter, if◌then◌else◌, ◌||◌, not, ◌⊎◌}
use Rattle.std.specs.List.{list_any}

-- The class that a window leads: none where an earlier window is the same, or no later one is.
abbrev pub class_led_by : {A : Type 0} → (A → A → Bool) → List A → A → List A → List (List A)
class_led_by same earlier window later =
    if list_any (same window) earlier || not (list_any (same window) later)
    then []
    else (window ∷ filter (same window) later) ∷ []

-- The classes by their first members, and the members of each in order.
abbrev pub classes_from : {A : Type 0} → (A → A → Bool) → List A → List A → List (List A)
classes_from same earlier [] = []
classes_from same earlier (window ∷ later) =
    class_led_by same earlier window later ++ classes_from same (earlier ++ window ∷ []) later

-- the classes of windows in their order
abbrev pub classes : {A : Type 0} → (A → A → Bool) → List A → List (List A)
classes same windows = classes_from same [] windows

-- x is one of the list
abbrev pub Among : {A : Type 0} → List A → A → Type 0
Among [] x = ⊥
Among (y ∷ ys) x = (x ≡ y) ⊎ Among ys x

-- Two pairs have one first local exactly where they have one second local.
abbrev pub Agree : (ℕ × ℕ) → (ℕ × ℕ) → Type 0
Agree p q = ((p.0 ≡ q.0) → p.1 ≡ q.1) × ((p.1 ≡ q.1) → p.0 ≡ q.0)

-- A test is an equivalence.
pub record IsEquivalent {A : Type 0} (same : A → A → Bool) : Type 0 where
  pub reflexive : (x : A) → same x x ≡ true
  pub symmetric : (x y : A) → same x y ≡ true → same y x ≡ true
  pub transitive : (x y z : A) → same x y ≡ true → same y z ≡ true → same x z ≡ true

-- None of a list is one of the other's.
abbrev pub AreApart : {A : Type 0} → List A → List A → Type 0
AreApart {A} xs ys = (x : A) → Among xs x → Among ys x → ⊥

-- Each class is apart from those behind it.
abbrev pub AllApart : {A : Type 0} → List (List A) → Type 0
AllApart [] = Unit {0}
AllApart {A} (c ∷ cs) = ((d : List A) → Among cs d → AreApart c d) × AllApart cs

-- Two windows stand in one class.
pub record Together {A : Type 0} (cs : List (List A)) (x y : A) : Type 0 where
  pub class : List A
  pub listed : Among cs class
  pub one : Among class x
  pub other : Among class y
