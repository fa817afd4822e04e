use Rattle.std.proofs.Common.{◌<◌, length, refl, arith}
use Rattle.go_types.specs.Tables.{type_of, rights_of}
use Rattle.go_exprs_rules.specs.Calls.{each_unassignable}
use Rattle.go_exprs_rules.specs.Settling.{unassignable}
use Rattle.go_exprs_calls.proofs.Steps.{known_step, fault_step}
use Rattle.go_exprs_calls.proofs.values.each_unassignable.Goals as goal

pub loop-node-preserved : goal.loop-node-preserved
loop-node-preserved c =
    let t = c.args.types.now in
    let ns = c.args.nodes.now in
    let i = c.loop-node.node-index in
    let n = c.node-item.result in
    let lt : i < length ns = omega arith in
    let to = type_of t.shapes c.args.to in
    record {
      known = (known_step t ns i n lt c.node-item.is (length t.shapes) c.loop-node.invariant.known).1;
      found = fault_step (unassignable (rights_of t) to) (each_unassignable (rights_of t) to) (λ x xs. refl) t ns i n c.loop-node.first c.unassignable.result c.earlier-first.result _ lt c.node-item.is c.loop-node.invariant.found c.unassignable.ensures c.earlier-first.ensures;
    }
