use Rattle.std.proofs.Common.{◌++◌, map}
use Rattle.std.specs.Option.{option_map}
use Rattle.go_base.specs.declared.fault.FaultCode.TheVariants as code
use Rattle.go_tree.specs.Failures.{failing}
use Rattle.go_tree.specs.Lookups.{undeclared, outside_names, outside_members, not_called, initialisers}
use Rattle.go_scopes_lookup.specs.Views.{asked_view}
use Rattle.go_scopes.specs.Views.{failure_of}
use Rattle.go_scopes.proofs.Least.{one_more}
use Rattle.go_scopes.proofs.resolve.lookup_faults.Goals as goal

pub returns : goal.returns
returns c =
    let asks = map asked_view c.args.asked.now in
    let f0 = option_map failure_of c.args.found in
    let f1 = option_map failure_of c.note_lookups-undeclared.result in
    let f2 = option_map failure_of c.note_lookups-named.result in
    let f3 = option_map failure_of c.note_lookups-selected.result in
    let f4 = option_map failure_of c.note_lookups-called.result in
    let f5 = option_map failure_of c.note_lookups.result in
    let r1 = failing code.Undeclared (undeclared asks) in
    let r2 = failing code.Outside (outside_names asks) in
    let r3 = failing code.Outside (outside_members asks) in
    let r4 = failing code.NotAValue (not_called asks) in
    let r5 = failing code.Initialiser (initialisers asks) in
    let two = one_more f0 f1 f2 r1 r2 c.note_lookups-undeclared.ensures c.note_lookups-named.ensures in
    let three = one_more f0 f2 f3 (r1 ++ r2) r3 two c.note_lookups-selected.ensures in
    let four = one_more f0 f3 f4 (r1 ++ r2 ++ r3) r4 three c.note_lookups-called.ensures in
    one_more f0 f4 f5 (r1 ++ r2 ++ r3 ++ r4) r5 four c.note_lookups.ensures
