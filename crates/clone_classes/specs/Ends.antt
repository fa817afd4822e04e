-- Which of some places reaches furthest, by which most places are told at once to meet none of them, or one.
use Rattle.std.specs.Prelude.{◌≡◌, Bool, true, false, ◌||◌, ◌&&◌, nat_eq, nat_le, nat_lt, if◌then◌else◌, List, [], Option, Some, None}
use Rattle.std.specs.List.{list_any}
use Rattle.clone_classes.specs.declared.place.Place.{Place}
use Rattle.clone_classes.specs.Choices.{meets}

-- The second place lies in a later function than the first, or behind it in the same.
abbrev pub is_behind : Place → Place → Bool
is_behind e p = nat_lt e.func p.func || (nat_eq e.func p.func && nat_le e.to p.from)

-- Whether the second reaches no further than the first.
abbrev pub reaches : Place → Place → Bool
reaches e p = nat_lt p.func e.func || (nat_eq p.func e.func && nat_le p.to e.to)

-- A place that meets e meets one of the places, and one that lies behind e meets none.
pub record IsEnd (e : Place) (ps : List Place) : Type 0 where
  pub one : (p : Place) → meets p e ≡ true → list_any (meets p) ps ≡ true
  pub furthest : (p : Place) → is_behind e p ≡ true → list_any (meets p) ps ≡ false

abbrev pub EndsAt : Option Place → List Place → Type 0
EndsAt None ps = ps ≡ []
EndsAt (Some e) ps = IsEnd e ps

-- the one that reaches further
abbrev pub further : Option Place → Place → Place
further None p = p
further (Some e) p = if reaches e p then e else p
