use Rattle.std.proofs.Common.{◌<◌, length, map, refl, arith}
use Rattle.go_types.specs.declared.shape.Field.{Field}
use Rattle.go_types.specs.Trees.{row}
use Rattle.go_types.specs.Tables.{type_of, rights_of}
use Rattle.go_typed.specs.Trees.{parts_of}
use Rattle.go_exprs_rules.specs.Settling.{Part}
use Rattle.go_exprs_rules.specs.Literals.{key_of, first_part, keyed_type, given_to_field, keyed_unassignable}
use Rattle.go_exprs_calls.proofs.Steps.{known_step, fault_step}
use Rattle.go_exprs_calls.proofs.elements.keyed_unassignable.Goals as goal

pub loop-node-preserved : goal.loop-node-preserved
loop-node-preserved c =
    let t = c.args.types.now in
    let ns = c.args.nodes.now in
    let i = c.loop-node.node-index in
    let n = c.node-item.result in
    let lt : i < length ns = omega arith in
    let ts = row (map (λ (f : Field). type_of t.shapes f.ty) c.args.fields.now) in
    record {
      known = (known_step t ns i n lt c.node-item.is (length t.shapes) c.loop-node.invariant.known).1;
      found = fault_step (λ (x : Part). given_to_field (rights_of t) (keyed_type ts (key_of x)) (first_part (parts_of x))) (keyed_unassignable (rights_of t) ts) (λ x xs. refl) t ns i n c.loop-node.first c.keyed_fault.result c.earlier-first.result _ lt c.node-item.is c.loop-node.invariant.found c.keyed_fault.ensures c.earlier-first.ensures;
    }
