use Rattle.std.proofs.Common.{◌≡◌, length, drop}
use Rattle.go_types.specs.Tables.{type_of, rights_of}
use Rattle.go_exprs_rules.specs.Faults.{least, earlier}
use Rattle.go_exprs_rules.specs.Calls.{each_unrepresented}
use Rattle.go_exprs_calls.specs.Shown.{shown, AllShownKnown}
use Rattle.go_exprs_calls.proofs.extremes.each_unrepresented.Given as goal

abbrev pub invariant-loop-node : goal.invariant-loop-node
invariant-loop-node l = record {
  known : AllShownKnown (length l.types.shapes) (drop l.node-index l.nodes);
  found : earlier l.first (least (each_unrepresented (rights_of l.types) (type_of l.types.shapes l.of) (shown l.types (drop l.node-index l.nodes)))) ≡ least (each_unrepresented (rights_of l.types) (type_of l.types.shapes l.of) (shown l.types l.nodes));
}
