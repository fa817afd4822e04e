-- What the program holds of each specification.
use Rattle.std.specs.Prelude.{ℕ, max, List, [], ◌∷◌, length, Option, Some, None}
use Rattle.std.specs.Option.{option_map}
use Rattle.std.specs.HashMap.{HashMap}
use Rattle.std.specs.HashMap as hash
use Rattle.go_tree.specs.Uses.{UsesView, object_of}
use Rattle.go_scopes_lookup.specs.Tables.{same_spot}
use Rattle.go_package_defs.specs.Declarations.{Specification}
use Rattle.go_package_defs.specs.Sources.{Package, number_in, number_before, declared_at}
use Rattle.go_package_defs.specs.Verdicts.{first_name, numbers_of}
use Rattle.go_needs.specs.declared.groups.Group.{Group}
use Rattle.go_needs.specs.declared.owners.Owner.{Owner}
use Rattle.go_needs.specs.Owners.{owner_of}

-- the numbers of the objects that it declares, the number of its names or values, whichever is greater, and the specification as which
-- its first name is declared
pub record Seen : Type 0 where
  pub numbers : List ℕ
  pub columns : ℕ
  pub root : Option Owner

abbrev pub group_view : Group → Seen
group_view g = record { numbers = g.numbers.items; columns = g.columns; root = g.root }

-- the numbers of the objects that tokens of a file name
abbrev pub numbers_in : UsesView → ℕ → List ℕ → List ℕ
numbers_in u n [] = []
numbers_in u n (t ∷ ts) = number_before (number_in (object_of u n t)) (numbers_in u n ts)

abbrev pub group_by : {S : Type 0} → UsesView → HashMap (ℕ × ℕ) Owner S → Specification → Seen
group_by u m d = record { numbers = numbers_in u d.file d.names; columns = max (length d.names) (length d.values); root = hash.get same_spot m (d.file, first_name d.names) }

abbrev pub group_in : Package → Specification → Seen
group_in p d = record { numbers = numbers_of p d.file d.names; columns = max (length d.names) (length d.values); root = option_map owner_of (declared_at d.file (first_name d.names) p.declared) }

abbrev pub with_root : Option Owner → List Owner → List Owner
with_root None os = os
with_root (Some o) os = o ∷ os

-- the specifications of the first names
abbrev pub roots : List Group → List Owner
roots [] = []
roots (g ∷ gs) = with_root g.root (roots gs)
