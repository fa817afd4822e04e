use Rattle.std.proofs.Common.{◌++◌}
use Rattle.std.specs.Option.{option_map}
use Rattle.go_base.specs.declared.fault.FaultCode.TheVariants as code
use Rattle.go_tree.specs.Failures.{failing}
use Rattle.go_tree.specs.Branches.{branches, limit}
use Rattle.go_tree.specs.Constants.{hidden_lists}
use Rattle.go_tree.specs.Duplicates.{duplicates}
use Rattle.go_scopes_lookup.specs.Views.{units_view}
use Rattle.go_scopes.specs.Views.{failure_of}
use Rattle.go_scopes.proofs.Least.{one_more}
use Rattle.go_scopes.proofs.resolve.placed_faults.Goals as goal

pub returns : goal.returns
returns c =
    let us = units_view c.args.units.now in
    let f0 = option_map failure_of c.args.found in
    let f1 = option_map failure_of c.in_ok-placed.placed in
    let f2 = option_map failure_of c.in_ok-twice.twice in
    let f3 = option_map failure_of c.limit-limited.result in
    let f4 = option_map failure_of c.in_ok-hidden_lists.field-0 in
    let r1 = failing code.Branch (branches us) in
    let r2 = failing code.Duplicate (duplicates us) in
    let r3 = failing code.Limit (limit us) in
    let r4 = failing code.Outside (hidden_lists us) in
    let two = one_more f0 f1 f2 r1 r2 c.in_ok-placed.ensures c.in_ok-twice.ensures in
    one_more f0 f3 f4 ((r1 ++ r2) ++ r3) r4 (one_more f0 f2 f3 (r1 ++ r2) r3 two c.limit-limited.ensures) c.in_ok-hidden_lists.ensures
