use Rattle.std.proofs.Common.{None, ◌++◌, map}
use Rattle.std.specs.Option.{option_map}
use Rattle.go_base.specs.declared.fault.FaultCode.TheVariants as code
use Rattle.go_tree.specs.Failures.{failing}
use Rattle.go_tree.specs.Clauses.{package_names, imports, outside_declarations, missing_bodies}
use Rattle.go_scopes_lookup.specs.Views.{units_view, found_view}
use Rattle.go_scopes.specs.Views.{failure_of}
use Rattle.go_scopes.proofs.Least.{one_more}
use Rattle.go_scopes.proofs.clauses.clause_faults.Goals as goal

pub returns : goal.returns
returns c =
    let us = units_view c.args.units.now in
    let ds = map found_view c.args.all.now in
    let f1 = option_map failure_of c.package_names-named.result in
    let f2 = option_map failure_of c.in_ok-imported.imported in
    let f3 = option_map failure_of c.outside_declarations-declared.result in
    let f4 = option_map failure_of c.in_ok-missing_bodies.field-0 in
    let r1 = failing code.PackageName (package_names us) in
    let r2 = failing code.Outside (imports us) in
    let r3 = failing code.Outside (outside_declarations ds) in
    let r4 = failing code.Outside (missing_bodies ds us) in
    let two = one_more None f1 f2 r1 r2 c.package_names-named.ensures c.in_ok-imported.ensures in
    let three = one_more None f2 f3 (r1 ++ r2) r3 two c.outside_declarations-declared.ensures in
    one_more None f3 f4 (r1 ++ r2 ++ r3) r4 three c.in_ok-missing_bodies.ensures
