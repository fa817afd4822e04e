-- What is needed, as the program holds it.
use Rattle.go_tree.specs.Needs as rules
use Rattle.go_scopes_lookup.specs.Views.{found_view}
use Rattle.go_scopes_cycles.specs.declared.needs.Needed.{Needed}

abbrev pub needed_view : Needed → rules.Needed
needed_view x = record { it = found_view x.found; full = x.full }
