use Rattle.std.proofs.Common.{◌≡◌, drop, false}
use Rattle.std.specs.Option.{option_map}
use Rattle.go_base.specs.declared.fault.FaultCode.TheVariants as code
use Rattle.go_tree.specs.Redeclared.{second_imports}
use Rattle.go_scopes.specs.Noted.{noted}
use Rattle.go_scopes.specs.Views.{failure_of}
use Rattle.go_scopes.proofs.redeclared.SecondImportsFileRule.note_in.Given as goal

abbrev pub invariant-loop-event : goal.invariant-loop-event
invariant-loop-event l =
    noted (option_map failure_of l.found) code.Redeclared (second_imports l.imported l.file l.unit.tokens.now (drop l.event-index l.unit.events.items))
    ≡ noted (option_map failure_of l.fn.found) code.Redeclared (second_imports false l.file l.unit.tokens.now l.unit.events.items)
