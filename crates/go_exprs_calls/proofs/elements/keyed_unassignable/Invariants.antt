use Rattle.std.proofs.Common.{◌≡◌, length, drop, map}
use Rattle.go_types.specs.Trees.{row}
use Rattle.go_types.specs.Tables.{type_of, rights_of}
use Rattle.go_exprs_rules.specs.Faults.{least, earlier}
use Rattle.go_exprs_rules.specs.Literals.{keyed_unassignable}
use Rattle.go_exprs_calls.specs.Shown.{shown, AllShownKnown}
use Rattle.go_exprs_calls.proofs.elements.keyed_unassignable.Given as goal

abbrev pub invariant-loop-node : goal.invariant-loop-node
invariant-loop-node l = record {
  known : AllShownKnown (length l.types.shapes) (drop l.node-index l.nodes);
  found : earlier l.first (least (keyed_unassignable (rights_of l.types) (row (map (λ f. type_of l.types.shapes f.ty) l.fields)) (shown l.types (drop l.node-index l.nodes)))) ≡ least (keyed_unassignable (rights_of l.types) (row (map (λ f. type_of l.types.shapes f.ty) l.fields)) (shown l.types l.nodes));
}
