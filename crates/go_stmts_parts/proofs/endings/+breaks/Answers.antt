use Rattle.std.proofs.Common.{◌≡◌, ◌<◌, length, get_or, Some, sym, ◌∙◌, arith}
use Rattle.go_exprs_rules.proofs.Public.{known_at}
use Rattle.go_stmts_parts.proofs.Loops.{part_within}
use Rattle.go_stmts_parts.proofs.endings.+breaks.Goals as goal

pub any_breaks-breaks-requires : goal.any_breaks-breaks-requires
any_breaks-breaks-requires t c =
    let ns = c.args.parts.now in
    let i = c.loop-part.part-index in
    let is : Some c.in-Some.part ≡ get_or ns i c.part-item.result = sym c.in-Some.is ∙ c.part-item.is in
    let lt : i < length ns = c.loop-part-test.true in
    let low = part_within ns i c.in-Some.part c.part-item.result lt is in
    (omega (arith, low, c.decreases), (known_at (length c.args.types.now.shapes) ns i c.in-Some.part c.part-item.result lt is c.loop-part.invariant.known).0)
