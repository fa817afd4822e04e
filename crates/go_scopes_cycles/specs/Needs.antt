-- What a name that is looked up calls for.
use Rattle.std.specs.Prelude.{Bool, nat_eq, Option, Some, None}
use Rattle.go_tree.specs.Declarations.{Found}
use Rattle.go_tree.specs.Meanings.{Meaning}
use Rattle.go_tree.specs.Lookups.{Asked}
use Rattle.go_tree.specs.Needs.{Needed, if_so, way}

-- the declaration that a meaning comes from
abbrev pub source_of : Option Meaning → Option Found
source_of None = None
source_of (Some m) = m.source

-- in which way a declaration needs a name, if it does
abbrev pub way_of : Asked → Needed → Option Bool
way_of a x = if_so (nat_eq a.file x.it.file) (way x.it.it x.full a.it.site)

abbrev pub needed_in : Option Bool → Option Found → Option Needed
needed_in (Some f) (Some d) = Some (record { it = d; full = f })
needed_in (Some f) None = None
needed_in None d = None

-- the declaration that the name calls for, where the other one needs it
abbrev pub needed_by : Asked → Needed → Option Needed
needed_by a x = needed_in (way_of a x) (source_of a.meaning)
