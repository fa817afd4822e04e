use Rattle.std.proofs.Common.{◌≡◌, ◌++◌, ◌<◌, All, length, drop, map}
use Rattle.std.specs.List.{AllByRecursion}
use Rattle.go_exprs_rules.specs.Settling.{as_type}
use Rattle.go_stmts_defs.specs.Assigning.{takes}
use Rattle.go_stmts_rules.specs.Seen.{taking_seen, KnownTaking, types_seen}
use Rattle.go_stmts_rules.proofs.values.push_results.Given as goal

abbrev pub invariant-loop-of : goal.invariant-loop-of
invariant-loop-of l = record {
  known : All (KnownTaking (length l.types.shapes)) l.takings.items;
  left : AllByRecursion (λ t. t < length l.types.shapes) (drop l.of-index l.results);
  taken : map (taking_seen l.types) l.takings.items ++ map (λ t. takes (as_type t)) (types_seen l.types (drop l.of-index l.results)) ≡ map (taking_seen l.types) l.initial.takings.items ++ map (λ t. takes (as_type t)) (types_seen l.types l.results);
}
