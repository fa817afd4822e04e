use Rattle.std.proofs.Common.{◌≡◌, ◌++◌, ◌<◌, length, drop, map, Some}
use Rattle.std.specs.List.{AllByRecursion}
use Rattle.go_stmts_rules.specs.Seen.{wanted_seen, KnownWanted, types_seen}
use Rattle.go_stmts_rules.proofs.wanted.result_types.Given as goal

abbrev pub invariant-loop-of : goal.invariant-loop-of
invariant-loop-of l = record {
  known : AllByRecursion (KnownWanted (length l.types.shapes)) l.wanted.items;
  left : AllByRecursion (λ t. t < length l.types.shapes) (drop l.of-index l.results);
  taken : wanted_seen l.types l.wanted.items ++ map (λ t. Some t) (types_seen l.types (drop l.of-index l.results)) ≡ map (λ t. Some t) (types_seen l.types l.results);
}
