use Rattle.std.proofs.Common.{◌≡◌, ◌<◌, length, drop}
use Rattle.std.specs.List.{AllByRecursion}
use Rattle.go_types.specs.Tables.{rights_of}
use Rattle.go_typed.specs.Views.{seen}
use Rattle.go_exprs_rules.specs.Faults.{least, earlier}
use Rattle.go_stmts_defs.specs.Assigning.{results_unassigned}
use Rattle.go_stmts_rules.specs.Seen.{wanted_seen, KnownWanted, types_seen}
use Rattle.go_stmts_rules.proofs.assign.results_unassigned.Given as goal

abbrev pub invariant-loop-number : goal.invariant-loop-number
invariant-loop-number l = record {
  wanted : AllByRecursion (KnownWanted (length l.types.shapes)) (drop l.number l.wanted);
  results : AllByRecursion (λ t. t < length l.types.shapes) (drop l.number l.results);
  found : earlier l.first (least (results_unassigned (rights_of l.types) (seen l.types l.call) (wanted_seen l.types (drop l.number l.wanted)) (types_seen l.types (drop l.number l.results)))) ≡ least (results_unassigned (rights_of l.types) (seen l.types l.call) (wanted_seen l.types l.wanted) (types_seen l.types l.results));
}
