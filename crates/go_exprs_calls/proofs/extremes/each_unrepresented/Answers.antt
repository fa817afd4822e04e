use Rattle.std.proofs.Common.{◌<◌, length, refl, arith}
use Rattle.go_types.specs.Tables.{type_of, rights_of}
use Rattle.go_exprs_rules.specs.Calls.{each_unrepresented}
use Rattle.go_exprs_rules.specs.Settling.{unrepresented}
use Rattle.go_exprs_calls.proofs.Steps.{known_step, fault_step}
use Rattle.go_exprs_calls.proofs.extremes.each_unrepresented.Goals as goal

pub loop-node-preserved : goal.loop-node-preserved
loop-node-preserved c =
    let t = c.args.types.now in
    let ns = c.args.nodes.now in
    let i = c.loop-node.node-index in
    let n = c.node-item.result in
    let lt : i < length ns = omega arith in
    let of = type_of t.shapes c.args.of in
    record {
      known = (known_step t ns i n lt c.node-item.is (length t.shapes) c.loop-node.invariant.known).1;
      found = fault_step (unrepresented (rights_of t) of) (each_unrepresented (rights_of t) of) (λ x xs. refl) t ns i n c.loop-node.first c.unrepresented.result c.earlier-first.result _ lt c.node-item.is c.loop-node.invariant.found c.unrepresented.ensures c.earlier-first.ensures;
    }
