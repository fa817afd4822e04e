-- Names in written types while they are collected.
use Rattle.std.specs.Prelude.{◌≡◌, ℕ, Bool, true, nat_eq, List, map}
use Rattle.std.specs.HashSet as set
use Rattle.std.specs.List.{list_any}
use Rattle.go_types.specs.Tables.{type_of}
use Rattle.go_typed.specs.Packages.{PackageView}
use Rattle.escape_check.specs.declared.type_names.Collected.{Collected}
use Rattle.escape_check.specs.Places.{sources_in}
use Rattle.escape_check.specs.Types.{TypeName, names_of, names_of_all}
use Rattle.escape_check.specs.Written.{type_name_view}

-- the names in a type of a package's table
abbrev pub names_of_type : PackageView → ℕ → List TypeName
names_of_type p t = names_of (sources_in p) (type_of p.types.shapes t)

-- the names in some
abbrev pub names_of_types : PackageView → List ℕ → List TypeName
names_of_types p ts = names_of_all (type_of p.types.shapes) (sources_in p) ts

abbrev pub names_collected : Collected → List TypeName
names_collected c = map type_name_view c.names.items

-- The names in the types that were seen are among the names.
abbrev pub KnowsNames : PackageView → Collected → Type 0
KnowsNames p c = (test : TypeName → Bool) (t : ℕ) → set.contains nat_eq c.seen t ≡ true → list_any test (names_of_type p t) ≡ true → list_any test (names_collected c) ≡ true
