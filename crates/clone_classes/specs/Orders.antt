-- The order of windows and of classes.
use Rattle.std.specs.Prelude.{List, [], ◌∷◌}
use Rattle.std.specs.declared.cmp.Ordering.{Ordering}
use Rattle.std.specs.Ordering.{nat_cmp, ordering_then}
use Rattle.std.specs.List.Sorted.{IsPermutation, IsSortedByKey}
use Rattle.go_typed.specs.declared.window.Class.{Class}
use Rattle.go_typed.specs.declared.window.Window.{Window}
use Rattle.clone_classes.specs.declared.place.Place.{Place}

-- By function, then by the first token, then by the last one. Functions are numbered by files and places, and tokens follow one
-- another, so this is the order by file, start and end.
abbrev pub place_cmp : Place → Place → Ordering
place_cmp p q = ordering_then (nat_cmp p.func q.func) (ordering_then (nat_cmp p.from q.from) (nat_cmp p.to q.to))

-- the place of the first of some windows
abbrev pub first_place : (Window → Place) → List Window → Place
first_place place [] = record { func = 0; from = 0; to = 0 }
first_place place (w ∷ ws) = place w

abbrev pub class_place : (Window → Place) → Class → Place
class_place place c = first_place place c.members

-- The one class has the members of the other, in order.
pub record IsOrdered (place : Window → Place) (c d : Class) : Type 0 where
  pub moved : IsPermutation c.members d.members
  pub sorted : IsSortedByKey place place_cmp d.members

abbrev pub AreOrdered : (Window → Place) → List Class → List Class → Type 0
AreOrdered place [] [] = Unit {0}
AreOrdered place (c ∷ cs) (d ∷ ds) = IsOrdered place c d × AreOrdered place cs ds
AreOrdered place cs ds = ⊥

-- The classes are these groups, each with its members in order, in the order of their first members.
pub record IsListed (place : Window → Place) (groups classes : List Class) : Type 0 where
  pub each : List Class
  pub ordered : AreOrdered place groups each
  pub moved : IsPermutation each classes
  pub sorted : IsSortedByKey (class_place place) place_cmp classes
