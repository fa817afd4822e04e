use Rattle.std.proofs.Common.{◌≡◌, length, map}
use Rattle.std.specs.Option.{option_map}
use Rattle.go_tree.specs.Redeclared.{none_new}
use Rattle.go_scopes.specs.Noted.{noted}
use Rattle.go_base.specs.declared.fault.FaultCode.TheVariants as code
use Rattle.go_scopes_lookup.specs.Views.{found_view}
use Rattle.go_scopes.specs.Views.{failure_of}
use Rattle.go_scopes.proofs.redeclared.none_new.Given as goal

abbrev pub invariant-loop-all : goal.invariant-loop-all
invariant-loop-all l = noted (option_map failure_of l.found) code.Redeclared (none_new (map found_view l.declared) (map found_view l.all)) ≡ noted (option_map failure_of l.initial.found) code.Redeclared (none_new (map found_view l.declared) (map found_view l.initial.all))

abbrev pub decreases-loop-all : goal.decreases-loop-all
decreases-loop-all l = length l.all
