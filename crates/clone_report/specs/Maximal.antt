-- Which classes of windows are maximal.
use Rattle.std.specs.Prelude.{ℕ, zero, suc, ◌+◌, ◌≤◌, ◌≡◌, Bool, true, false, ◌&&◌, ◌||◌, not, nat_eq, if◌then◌else◌, List, [], ◌∷◌, Option, Some, None}
use Rattle.std.specs.List.{list_all, list_any}
use Rattle.go_typed.specs.declared.window.Window.{Window}
use Rattle.clone_classes.specs.Classes.{Among}
use Rattle.clone_report.specs.declared.side.Side.{Side}
use Rattle.clone_report.specs.declared.side.Side.TheVariants as side

-- ---- extensions

-- the window whose first statement has this place, with the statement in front of it; none at the first place of a list
abbrev pub before : ℕ → Window → Option Window
before zero w = None
before (suc n) w = Some (record { func = w.func; list = w.list; first = n; count = suc w.count })

-- the window with the statement behind its last one
abbrev pub after : Window → Window
after w = record { func = w.func; list = w.list; first = w.first; count = suc w.count }

-- The extension of a window on a side: the run with one adjoining statement more of the same list there. Where a list has no
-- statement behind the window, this run is no window of it, and so a member of no class.
abbrev pub extension : Side → Window → Option Window
extension side.Before w = before w.first w
extension side.After w = Some (after w)

-- ---- subsumed, maximal

abbrev pub is_same : Window → Window → Bool
is_same w v = nat_eq w.func v.func && nat_eq w.list v.list && nat_eq w.first v.first && nat_eq w.count v.count

-- whether it is there, and one of the windows
abbrev pub is_among : List Window → Option Window → Bool
is_among ws None = false
is_among ws (Some w) = list_any (is_same w) ws

-- Each member of the first class has an extension on this side, and it is a member of the second one.
abbrev pub is_subsumed_on : Side → List Window → List Window → Bool
is_subsumed_on on members class = list_all (λ w. is_among class (extension on w)) members

-- The second class subsumes the first one: so it is on one of the two sides.
abbrev pub is_subsumed_by : List Window → List Window → Bool
is_subsumed_by members class = is_subsumed_on side.Before members class || is_subsumed_on side.After members class

-- none of the classes subsumes it
abbrev pub is_maximal : List (List Window) → List Window → Bool
is_maximal classes class = not (list_any (is_subsumed_by class) classes)

-- the numbers of those that are maximal among all classes, where the first has the number n
abbrev pub maximal_from : List (List Window) → ℕ → List (List Window) → List ℕ
maximal_from all n [] = []
maximal_from all n (c ∷ cs) = if is_maximal all c then n ∷ maximal_from all (suc n) cs else maximal_from all (suc n) cs

-- the numbers of the maximal classes, counted from 1
abbrev pub maximal : List (List Window) → List ℕ
maximal classes = maximal_from classes 1 classes

-- ---- within a maximal class

-- The statements of the one window are among those of the other.
pub record LiesIn (w v : Window) : Type 0 where
  pub func : w.func ≡ v.func
  pub list : w.list ≡ v.list
  pub first : v.first ≤ w.first
  pub last : w.first + w.count ≤ v.first + v.count

-- The window lies in a member of a class that is maximal.
pub record IsWithinMaximal (classes : List (List Window)) (w : Window) : Type 0 where
  pub class : List Window
  pub listed : Among classes class
  pub maximal : is_maximal classes class ≡ true
  pub member : Window
  pub among : Among class member
  pub lies : LiesIn w member
