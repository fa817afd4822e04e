use Rattle.std.proofs.Common.{rules, arith, ◌-◌, length}
use Rattle.go_exprs_types.proofs.Public.{part_known}
use Rattle.go_stmts.proofs.signature_parts.entry_types.Goals as goal

pub entry-next-requires-clause-node : goal.entry-next-requires-clause-node
entry-next-requires-clause-node c =
    part_known (length c.args.types.now.shapes) c.args.entries.now (c.loop-number.number - 1) c.in-Some.part c.index-entries-number.result (omega (arith, c.loop-number-test.true, c.loop-number.auto.number)) (search rules) c.requires
