use Rattle.std.proofs.Common.{◌≡◌, ◌∙◌, ◌+◌, ◌++◌, None, map, length, ap, sym}
use Rattle.std.proofs.lemmas.List.{length-map}
use Rattle.std.specs.Option.{option_map}
use Rattle.go_base.specs.declared.fault.FaultCode.TheVariants as code
use Rattle.go_tree.specs.Failures.{failing, least}
use Rattle.go_tree.specs.Redeclared.{redeclared}
use Rattle.go_tree.specs.Needs.{cycles}
use Rattle.go_tree.specs.Faults.{lookup_faults, unused_faults, placed_faults}
use Rattle.go_scopes_lookup.specs.Views.{units_view, found_view, asked_view}
use Rattle.go_scopes.specs.Views.{failure_of}
use Rattle.go_scopes.proofs.Least.{one_more}
use Rattle.go_scopes.proofs.resolve.name_faults.Goals as goal

pub returns : goal.returns
returns c =
    let us = units_view c.args.units.now in
    let ds = map found_view c.args.declared.now in
    let asks = map asked_view c.args.asked.now in
    let k = length c.args.declared.now in
    let f1 = option_map failure_of c.in_ok-repeated.repeated in
    let f2 = option_map failure_of c.lookup_faults-looked_up.result in
    let f3 = option_map failure_of c.in_ok-unused.unused in
    let f4 = option_map failure_of c.in_ok-placed.placed in
    let f5 = option_map failure_of c.in_ok-cycles.field-0 in
    let r1 = failing code.Redeclared (redeclared us ds) in
    let r2 = lookup_faults asks in
    let r3 = unused_faults us ds asks in
    let r4 = placed_faults us in
    let two = one_more None f1 f2 r1 r2 c.in_ok-repeated.ensures c.lookup_faults-looked_up.ensures in
    let three = one_more None f2 f3 (r1 ++ r2) r3 two c.in_ok-unused.ensures in
    let four = one_more None f3 f4 (r1 ++ r2 ++ r3) r4 three c.in_ok-placed.ensures in
    let same : k ≡ length ds = sym (length-map c.args.declared.now found_view) in
    one_more None f4 f5 (r1 ++ r2 ++ r3 ++ r4) (failing code.Cycle (cycles asks (k + k) ds)) four c.in_ok-cycles.ensures
    ∙ ap (λ n. least ((r1 ++ r2 ++ r3 ++ r4) ++ failing code.Cycle (cycles asks (n + n) ds))) same
