use Rattle.std.proofs.Common.{◌≡◌, ◌++◌, ◌<◌, length, drop, map}
use Rattle.std.specs.Prelude.{All}
use Rattle.std.specs.List.{AllByRecursion}
use Rattle.go_types.specs.Trees.{row}
use Rattle.go_types.specs.Tables.{type_of}
use Rattle.go_exprs_rules.specs.Calls.{all_as}
use Rattle.go_exprs_rules.specs.Takes.{take_seen, KnownTake}
use Rattle.go_exprs_calls.proofs.takes.push_types.Given as goal

abbrev pub invariant-loop-of : goal.invariant-loop-of
invariant-loop-of l = record {
  known : All (KnownTake (length l.types.shapes)) l.takes.items;
  left : AllByRecursion (λ t. t < length l.types.shapes) (drop l.of-index l.to);
  taken : map (take_seen l.types) l.takes.items ++ all_as (row (map (type_of l.types.shapes) (drop l.of-index l.to))) ≡ map (take_seen l.types) l.initial.takes.items ++ all_as (row (map (type_of l.types.shapes) l.to));
}
