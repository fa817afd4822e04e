use Rattle.std.proofs.Common.{map}
use Rattle.std.specs.Option.{option_map}
use Rattle.go_base.specs.declared.fault.FaultCode.TheVariants as code
use Rattle.go_tree.specs.Failures.{failing}
use Rattle.go_tree.specs.Lookups.{unused_variables, unused_imports}
use Rattle.go_scopes_lookup.specs.Views.{units_view, found_view, asked_view}
use Rattle.go_scopes.specs.Views.{failure_of}
use Rattle.go_scopes.proofs.Least.{one_more}
use Rattle.go_scopes.proofs.resolve.unused_faults.Goals as goal

pub returns : goal.returns
returns c =
    let us = units_view c.args.units.now in
    let ds = map found_view c.args.declared.now in
    let asks = map asked_view c.args.asked.now in
    one_more (option_map failure_of c.args.found) (option_map failure_of c.in_ok-variables.variables) (option_map failure_of c.in_ok-unused_imports.field-0) (failing code.UnusedVariable (unused_variables asks ds)) (failing code.UnusedImport (unused_imports asks us)) c.in_ok-variables.ensures c.in_ok-unused_imports.ensures
