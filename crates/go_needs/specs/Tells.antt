-- What the program holds of a package.
use Rattle.std.specs.Prelude.{◌≡◌, List, ◌++◌, map, Some}
use Rattle.go_tree.specs.Lookups.{Asked, asked_from}
use Rattle.go_tree.specs.Meanings.{meanings}
use Rattle.go_tree.specs.Units.{Unit}
use Rattle.go_package_defs.specs.Declarations.{Specification}
use Rattle.go_package_defs.specs.Sources.{Package}
use Rattle.go_needs.specs.declared.needs.Held.{Held}
use Rattle.go_needs.specs.declared.needs.Needs.{Needs}
use Rattle.go_needs.specs.declared.owners.Owner.{Owner}
use Rattle.go_needs.specs.Declaring.{declaring_in}
use Rattle.go_needs.specs.Groups.{group_view, group_in, roots}
use Rattle.go_needs.specs.Objects.{owner_in}
use Rattle.go_needs.specs.Reached.{AreCalls}

-- the specifications of objects, and those as which first names are declared
abbrev pub all_owners : Held → List Owner
all_owners h = h.owners.items ++ roots h.groups.items

-- the names of a package with these files that are looked up
abbrev pub names_asked : List Unit → List Asked
names_asked us = asked_from (meanings us) 0 us

-- It tells of the declarations of the package, which has these specifications: which one declares each object, and where; and of each
-- specification what it declares.
pub record TellsDeclared (h : Held) (p : Package) (ds : List Specification) : Type 0 where
  pub declaring : map Some h.declaring.items ≡ map (declaring_in ds) p.uses.package_level
  pub owners : map Some h.owners.items ≡ map (owner_in p.declared ds) p.uses.package_level
  pub groups : map group_view h.groups.items ≡ map (group_in p) ds

-- It tells what the objects of the package need, which has these specifications: which one declares each object, and where; the names in
-- specifications, with the objects that they call for; and of each specification what it declares.
pub record TellsNeeds (n : Needs) (p : Package) (ds : List Specification) : Type 0 where
  pub declaring : map Some n.declaring.items ≡ map (declaring_in ds) p.uses.package_level
  pub owners : map Some n.owners.items ≡ map (owner_in p.declared ds) p.uses.package_level
  pub groups : map group_view n.groups.items ≡ map (group_in p) ds
  pub calls : AreCalls p n.owners.items (n.owners.items ++ roots n.groups.items) n.calls.items
