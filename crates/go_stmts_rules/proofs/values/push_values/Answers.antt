use Rattle.std.proofs.Common.{◌<◌, length, map, arith}
use Rattle.go_stmts_rules.specs.Seen.{taking_seen}
use Rattle.go_stmts_rules.proofs.Steps.{values_step}
use Rattle.go_stmts_rules.proofs.values.push_values.Goals as goal

pub loop-number-preserved : goal.loop-number-preserved
loop-number-preserved c =
    let t = c.args.types.now in
    let ns = c.args.values.now in
    let i = c.loop-number.number in
    let lt : i < length ns = omega arith in
    record {
      known = c.in_ok-push.ensures.known;
      taken = values_step t c.args.wanted.now ns i _ (map (taking_seen t) c.loop-number.takings.items) _ _ lt c.value_take.ensures.tree c.loop-number.invariant.taken c.in_ok-push.ensures.tree;
    }
