use Rattle.std.proofs.Common.{◌≡◌, length, drop}
use Rattle.go_types.specs.Tables.{type_of, rights_of}
use Rattle.go_typed.specs.Views.{AllKnown}
use Rattle.go_exprs_rules.specs.Faults.{earlier}
use Rattle.go_exprs_rules.proofs.Parts.{left}
use Rattle.go_exprs_rules.proofs.nodes.+unrepresented.Given as goal

abbrev pub invariant-loop-part : goal.invariant-loop-part
invariant-loop-part l = record {
  known : AllKnown (length l.types.shapes) (drop l.part-index l.part-items);
  found : earlier l.first (left l.types (rights_of l.types) (type_of l.types.shapes l.of) l.part-items l.part-index) ≡ left l.types (rights_of l.types) (type_of l.types.shapes l.of) l.part-items 0;
}
