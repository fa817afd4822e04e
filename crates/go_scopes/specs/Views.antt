-- The faults of the definitions, as the program holds them.
use Rattle.go_base.specs.declared.fault.Fault.{Fault}
use Rattle.go_tree.specs.Failures.{Failure}
use Rattle.go_tree.specs.Repeated as rules
use Rattle.go_scopes_lookup.specs.Views.{place_of}
use Rattle.go_scopes.specs.declared.repeated.NamePlace.{NamePlace}

abbrev pub failure_of : Fault → Failure
failure_of f = record { code = f.code; place = place_of f.span }

-- where a name stands
abbrev pub name_view : NamePlace → rules.NamePlace
name_view p = record { file = p.file; token = p.token; place = place_of p.place }
