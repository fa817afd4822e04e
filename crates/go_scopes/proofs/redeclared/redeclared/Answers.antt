use Rattle.std.proofs.Common.{◌≡◌, [], ◌++◌, false, map}
use Rattle.std.specs.Option.{option_map}
use Rattle.go_base.specs.declared.fault.FaultCode.TheVariants as code
use Rattle.go_tree.specs.Declarations.{found}
use Rattle.go_tree.specs.Failures.{of_files}
use Rattle.go_tree.specs.Redeclared.{second_declarations, has_import, hidden_imports, second_imports, none_new}
use Rattle.go_scopes_lookup.specs.Views.{units_view, found_view}
use Rattle.go_scopes.specs.Noted.{noted}
use Rattle.go_scopes.specs.Views.{failure_of}
use Rattle.go_scopes.proofs.Least.{noted_more, noted_by}
use Rattle.go_scopes.proofs.redeclared.redeclared.Goals as goal

pub returns : goal.returns
returns c =
    let us = units_view c.args.units.now in
    let ds = map found_view c.args.declared.now in
    let f0 = option_map failure_of c.args.found in
    let f1 = option_map failure_of c.in_ok-seconds.seconds in
    let f2 = option_map failure_of c.hidden_imports-hidden.result in
    let f3 = option_map failure_of c.in_ok-imported.imported in
    let f4 = option_map failure_of c.in_ok-none_new.field-0 in
    let r1 = second_declarations [] ds in
    let r2 = hidden_imports (has_import us) ds in
    let r3 = of_files (second_imports false) 0 us in
    let r4 = none_new ds (found us) in
    let hidden : f2 ≡ noted f1 code.Redeclared r2 = noted_by f1 f2 code.Redeclared (λ b. hidden_imports b ds) c.in_ok-has_import.field-0 (has_import us) c.hidden_imports-hidden.ensures c.in_ok-has_import.ensures in
    let old : f4 ≡ noted f3 code.Redeclared r4 = noted_by f3 f4 code.Redeclared (none_new ds) (map found_view c.args.all.now) (found us) c.in_ok-none_new.ensures c.requires.all in
    let two = noted_more f0 f1 f2 code.Redeclared r1 r2 c.in_ok-seconds.ensures hidden in
    let three = noted_more f0 f2 f3 code.Redeclared (r1 ++ r2) r3 two c.in_ok-imported.ensures in
    noted_more f0 f3 f4 code.Redeclared (r1 ++ r2 ++ r3) r4 three old
