use Rattle.std.proofs.Common.{◌≡◌, length, drop}
use Rattle.go_exprs_rules.specs.Faults.{least, earlier}
use Rattle.go_stmts_defs.specs.Assigning.{at_nil}
use Rattle.go_stmts_defs.specs.Rules.{each}
use Rattle.go_exprs_calls.specs.Shown.{shown, AllShownKnown}
use Rattle.go_stmts_rules.proofs.targets.nils_fault.Given as goal

abbrev pub invariant-loop-value : goal.invariant-loop-value
invariant-loop-value l = record {
  known : AllShownKnown (length l.types.shapes) (drop l.value-index l.values);
  found : earlier l.first (least (each at_nil (shown l.types (drop l.value-index l.values)))) ≡ least (each at_nil (shown l.types l.values));
}
