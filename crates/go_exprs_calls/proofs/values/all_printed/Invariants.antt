use Rattle.std.proofs.Common.{◌≡◌, length, drop}
use Rattle.go_types.specs.Tables.{rights_of}
use Rattle.go_exprs_rules.specs.Faults.{least, earlier}
use Rattle.go_exprs_rules.specs.Calls.{all_printed}
use Rattle.go_exprs_calls.specs.Shown.{shown, AllShownKnown}
use Rattle.go_exprs_calls.proofs.values.all_printed.Given as goal

abbrev pub invariant-loop-node : goal.invariant-loop-node
invariant-loop-node l = record {
  known : AllShownKnown (length l.types.shapes) (drop l.node-index l.nodes);
  found : earlier l.first (least (all_printed (rights_of l.types) l.place.first l.place.last (shown l.types (drop l.node-index l.nodes)))) ≡ least (all_printed (rights_of l.types) l.place.first l.place.last (shown l.types l.nodes));
}
