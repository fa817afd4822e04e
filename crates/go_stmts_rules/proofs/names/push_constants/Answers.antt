use Rattle.std.proofs.Common.{◌<◌, map, ap, arith}
use Rattle.std.specs.Option.{option_map}
use Rattle.go_types.specs.Tables.{type_of}
use Rattle.go_stmts_defs.specs.Assigning.{stands}
use Rattle.go_stmts_rules.specs.Seen.{taking_seen}
use Rattle.go_stmts_rules.proofs.Steps.{constants_step}
use Rattle.go_stmts_rules.proofs.names.push_constants.Goals as goal

pub loop-number-preserved : goal.loop-number-preserved
loop-number-preserved c =
    let t = c.args.types.now in
    let ns = c.args.values.now in
    let i = c.loop-number.number in
    let o = option_map (type_of t.shapes) c.args.of in
    let lt : i < c.args.count = omega arith in
    record {
      known = c.in_ok-push.ensures.known;
      taken = constants_step o t ns c.args.count i o _ (map (taking_seen t) c.loop-number.takings.items) _ _ lt (ap stands c.in_ok-sort.ensures.tree) c.loop-number.invariant.taken c.in_ok-push.ensures.tree;
    }
