use Rattle.std.proofs.Common.{◌≡◌, length, drop, map}
use Rattle.go_types.specs.Trees.{row}
use Rattle.go_types.specs.Tables.{type_of, rights_of}
use Rattle.go_exprs_rules.specs.Faults.{least, earlier}
use Rattle.go_exprs_rules.specs.Calls.{all_unassignable}
use Rattle.go_exprs_calls.specs.Shown.{shown, AllShownKnown}
use Rattle.go_exprs_calls.proofs.elements.fields_unassignable.Given as goal

abbrev pub invariant-loop-number : goal.invariant-loop-number
invariant-loop-number l = record {
  known : AllShownKnown (length l.types.shapes) (drop l.number l.nodes);
  found : earlier l.first (least (all_unassignable (rights_of l.types) (row (map (λ f. type_of l.types.shapes f.ty) (drop l.number l.fields))) (shown l.types (drop l.number l.nodes)))) ≡ least (all_unassignable (rights_of l.types) (row (map (λ f. type_of l.types.shapes f.ty) l.fields)) (shown l.types l.nodes));
}
