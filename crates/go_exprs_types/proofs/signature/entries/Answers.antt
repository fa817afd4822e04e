use Rattle.std.proofs.Common.{rules, arith, ◌≡◌, ◌-◌, ◌+◌, ◌<◌, None, ap, sym, ◌∙◌, length}
use Rattle.std.specs.Option.{option_map}
use Rattle.go_types.specs.Tables.{type_of}
use Rattle.go_typed.specs.Views.{seen}
use Rattle.go_exprs_rules.specs.TypeNodes.{entry_of, first_entry}
use Rattle.go_exprs_types.proofs.EntryTypes.{part_known, entries_from, with_entry, none_first, none_from}
use Rattle.go_exprs_types.proofs.signature.entries.Goals as goal

pub entry-next-requires-clause-node : goal.entry-next-requires-clause-node
entry-next-requires-clause-node c =
    part_known (length c.args.types.now.shapes) c.args.parts.now (c.loop-number.number - 1) c.in-Some.part c.index-parts-number.result (omega (arith, c.loop-number-test.true, c.loop-number.auto.number)) (search rules) c.requires

pub returns-in-None-clause-tree : goal.returns-in-None-clause-tree
returns-in-None-clause-tree c =
    let t = c.args.types.now in
    let ps = c.args.parts.now in
    let i = c.loop-number.number in
    let p = c.in-Some.part in
    let back : (i - 1) + 1 ≡ i = omega (arith, c.loop-number-test.true) in
    let within : (i - 1) < length ps = omega (arith, c.loop-number-test.true, c.loop-number.auto.number) in
    let split = with_entry t ps i (i - 1) p c.index-parts-number.result back within (search rules) in
    let gives = c.entry-next.ensures.tree ∙ ap (entry_of (seen t p)) c.loop-number.invariant.next in
    let none : entry_of (seen t p) (first_entry (entries_from t i ps)) ≡ None = sym gives ∙ ap (option_map (type_of t.shapes)) c.in-None.is in
    sym (none_from t ps (i - 1) (none_first (entries_from t i ps) (entries_from t (i - 1) ps) (entry_of (seen t p) (first_entry (entries_from t i ps))) split none))
