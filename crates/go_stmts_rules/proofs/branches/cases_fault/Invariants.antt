use Rattle.std.proofs.Common.{◌≡◌, length, drop}
use Rattle.go_types.specs.Tables.{rights_of}
use Rattle.go_typed.specs.Views.{sort_seen}
use Rattle.go_exprs_rules.specs.Faults.{least, earlier}
use Rattle.go_stmts_defs.specs.Rules.{each, case_failing}
use Rattle.go_exprs_calls.specs.Shown.{shown, AllShownKnown}
use Rattle.go_stmts_rules.proofs.branches.cases_fault.Given as goal

abbrev pub invariant-loop-value : goal.invariant-loop-value
invariant-loop-value l = record {
  known : AllShownKnown (length l.types.shapes) (drop l.value-index l.values);
  found : earlier l.first (least (each (case_failing (rights_of l.types) (sort_seen l.types l.tag)) (shown l.types (drop l.value-index l.values)))) ≡ least (each (case_failing (rights_of l.types) (sort_seen l.types l.tag)) (shown l.types l.values));
}
