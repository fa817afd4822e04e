-- The specifications that the objects of a package have, and those as which declarations are found at their names.
use Rattle.std.specs.Prelude.{◌≡◌, ℕ, List, Option, Some, None}
use Rattle.std.specs.Option.{option_map}
use Rattle.std.specs.HashMap.{HashMap}
use Rattle.std.specs.HashMap as hash
use Rattle.go_tree.specs.declared.object.Declared.{Declared}
use Rattle.go_tree.specs.Declarations.{Found}
use Rattle.go_scopes_lookup.specs.Tables.{same_spot}
use Rattle.go_package_defs.specs.Declarations.{Specification}
use Rattle.go_package_defs.specs.Sources.{declared_at}
use Rattle.go_needs.specs.declared.declaring.Declaring.{Declaring}
use Rattle.go_needs.specs.declared.owners.Owner.{Owner}
use Rattle.go_needs.specs.Declaring.{declaring_by, declaring_in}
use Rattle.go_needs.specs.Owners.{owner_of}

-- The map has the specification of the first declaration of the name at each token.
abbrev pub KnowsOwners : {S : Type 0} → HashMap (ℕ × ℕ) Owner S → List Found → Type 0
KnowsOwners m fs = (n t : ℕ) → hash.get same_spot m (n, t) ≡ option_map owner_of (declared_at n t fs)

abbrev pub with_column : Option Owner → Option Declaring → Option Owner
with_column None x = None
with_column (Some o) None = None
with_column (Some o) (Some x) = Some (record { file = o.file; source = o.source; column = x.column })

abbrev pub owner_by : {S T : Type 0} → HashMap (ℕ × ℕ) Owner S → HashMap (ℕ × ℕ) Declaring T → Declared → Option Owner
owner_by m w d = with_column (hash.get same_spot m (d.file, d.name)) (declaring_by w d)

-- the specification of an object, with the number of its name in it as its column
abbrev pub owner_in : List Found → List Specification → Declared → Option Owner
owner_in fs ds d = with_column (option_map owner_of (declared_at d.file d.name fs)) (declaring_in ds d)
