-- What is found so far of the objects of a package.
use Rattle.std.specs.Prelude.{◌≡◌, ℕ, Bool, true, false, List, [], ◌∷◌, Option, length, map}
use Rattle.std.specs.List.{AllByRecursion}
use Rattle.std.specs.Option.{option_map}
use Rattle.go_types.specs.Relations.{Rights}
use Rattle.go_types.specs.Tables.{Table, type_of, rights_of}
use Rattle.go_package_rounds.specs.Held.{KnownRight, AllHeld}
use Rattle.go_package_rounds.specs.World.{KnownStandings}
use Rattle.go_package_order.specs.declared.progress.Progress.{Progress}

-- The numbers of types are among the first n of a table.
abbrev pub KnownRights : ℕ → List (Option ℕ) → Type 0
KnownRights n rs = AllByRecursion (KnownRight n) rs

-- the right side of an object that is a type
abbrev pub own_right : Bool → Option ℕ → List (Option ℕ)
own_right true r = r ∷ []
own_right false r = []

-- the right sides with these numbers
abbrev pub sides : Table → List (Option ℕ) → Rights
sides t rs = map (option_map (type_of t.shapes)) rs

-- They are those of the table.
pub record HasRights (t : Table) (rs : List (Option ℕ)) : Type 0 where
  pub known : KnownRights (length t.shapes) rs
  pub are : rights_of t ≡ sides t rs

-- What is found is of the table: types among those there, and its right sides.
pub record IsFoundIn (t : Table) (x : Progress) : Type 0 where
  pub all : AllHeld (length t.shapes) x.all.items
  pub sound : KnownStandings (length t.shapes) x.sound.items
  pub told : KnownStandings (length t.shapes) x.told.items
  pub rights : HasRights t x.rights.items
