use Rattle.std.proofs.Common.{◌<◌, length, refl, arith}
use Rattle.go_types.specs.Tables.{rights_of}
use Rattle.go_exprs_rules.specs.Calls.{printed, all_printed}
use Rattle.go_exprs_calls.proofs.Steps.{known_step, fault_step}
use Rattle.go_exprs_calls.proofs.values.all_printed.Goals as goal

pub loop-node-preserved : goal.loop-node-preserved
loop-node-preserved c =
    let t = c.args.types.now in
    let ns = c.args.nodes.now in
    let i = c.loop-node.node-index in
    let n = c.node-item.result in
    let lt : i < length ns = omega arith in
    let place = c.args.place in
    record {
      known = (known_step t ns i n lt c.node-item.is (length t.shapes) c.loop-node.invariant.known).1;
      found = fault_step (printed (rights_of t) place.first place.last) (all_printed (rights_of t) place.first place.last) (λ x xs. refl) t ns i n c.loop-node.first c.printed.result c.earlier-first.result _ lt c.node-item.is c.loop-node.invariant.found c.printed.ensures c.earlier-first.ensures;
    }
