use Rattle.std.proofs.Common.{◌≡◌, length, drop}
use Rattle.std.specs.List.{AllByRecursion}
use Rattle.go_types.specs.Tables.{rights_of}
use Rattle.go_exprs_rules.specs.Faults.{least, earlier}
use Rattle.go_stmts_defs.specs.Assigning.{all_unassigned}
use Rattle.go_exprs_calls.specs.Shown.{shown, AllShownKnown}
use Rattle.go_stmts_rules.specs.Seen.{wanted_seen, KnownWanted}
use Rattle.go_stmts_rules.proofs.assign.all_unassigned.Given as goal

abbrev pub invariant-loop-number : goal.invariant-loop-number
invariant-loop-number l = record {
  wanted : AllByRecursion (KnownWanted (length l.types.shapes)) (drop l.number l.wanted);
  values : AllShownKnown (length l.types.shapes) (drop l.number l.values);
  found : earlier l.first (least (all_unassigned (rights_of l.types) (wanted_seen l.types (drop l.number l.wanted)) (shown l.types (drop l.number l.values)))) ≡ least (all_unassigned (rights_of l.types) (wanted_seen l.types l.wanted) (shown l.types l.values));
}
