use Rattle.std.proofs.Common.{◌≡◌, length, drop}
use Rattle.go_types.specs.Tables.{rights_of}
use Rattle.go_exprs_rules.specs.Faults.{least, earlier}
use Rattle.go_stmts_defs.specs.Rules.{each, not_a_target}
use Rattle.go_exprs_calls.specs.Shown.{shown, AllShownKnown}
use Rattle.go_stmts_rules.proofs.targets.targets_fault.Given as goal

abbrev pub invariant-loop-target : goal.invariant-loop-target
invariant-loop-target l = record {
  known : AllShownKnown (length l.types.shapes) (drop l.target-index l.targets);
  found : earlier l.first (least (each (not_a_target (rights_of l.types)) (shown l.types (drop l.target-index l.targets)))) ≡ least (each (not_a_target (rights_of l.types)) (shown l.types l.targets));
}
