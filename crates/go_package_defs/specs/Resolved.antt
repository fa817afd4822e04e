-- What a package without faults of names owes the order of its declarations.
use Rattle.std.specs.Prelude.{◌≡◌, List, false}
use Rattle.go_tree.specs.Declarations.{Found, declarations}
use Rattle.go_tree.specs.Lookups.{Asked, asked_from}
use Rattle.go_tree.specs.Meanings.{meanings}
use Rattle.go_tree.specs.Units as names
use Rattle.go_scopes_cycles.specs.Closure.{rounds, any_itself, AreDeclared, IsOneEach}

-- the names that are looked up
abbrev pub all_asked : List names.Unit → List Asked
all_asked us = asked_from (meanings us) 0 us

-- No declaration needs itself, in any number of rounds; all that names call for are declared; and declarations of one name are one.
pub record HasOrder (asks : List Asked) (ds : List Found) : Type 0 where
  pub itself : any_itself asks (rounds asks) ds ≡ false
  pub declared : AreDeclared asks ds
  pub one_each : IsOneEach asks ds

abbrev pub IsOrdered : List names.Unit → Type 0
IsOrdered us = HasOrder (all_asked us) (declarations us)
