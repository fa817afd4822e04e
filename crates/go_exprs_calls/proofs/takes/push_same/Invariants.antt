use Rattle.std.proofs.Common.{◌≡◌, ◌++◌, All, length, drop, map}
use Rattle.go_exprs_rules.specs.Takes.{take_seen, KnownTake}
use Rattle.go_exprs_calls.specs.Shown.{shown}
use Rattle.go_exprs_calls.proofs.takes.push_same.Given as goal

abbrev pub invariant-loop : goal.invariant-loop
invariant-loop l = record {
  known : All (KnownTake (length l.types.shapes)) l.takes.items;
  taken : map (take_seen l.types) l.takes.items ++ map (λ x. take_seen l.types l.take) (shown l.types (drop l.index l.nodes)) ≡ map (take_seen l.types) l.initial.takes.items ++ map (λ x. take_seen l.types l.take) (shown l.types l.nodes);
}
