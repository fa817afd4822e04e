use Rattle.std.proofs.Common.{◌≡◌, ◌++◌, All, length, drop, map}
use Rattle.go_stmts_defs.specs.Assigning.{values_take}
use Rattle.go_exprs_calls.specs.Shown.{shown}
use Rattle.go_stmts_rules.specs.Seen.{taking_seen, KnownTaking, wanted_seen}
use Rattle.go_stmts_rules.proofs.values.push_values.Given as goal

abbrev pub invariant-loop-number : goal.invariant-loop-number
invariant-loop-number l = record {
  known : All (KnownTaking (length l.types.shapes)) l.takings.items;
  taken : map (taking_seen l.types) l.takings.items ++ values_take (wanted_seen l.types (drop l.number l.wanted)) (shown l.types (drop l.number l.values)) ≡ map (taking_seen l.types) l.initial.takings.items ++ values_take (wanted_seen l.types l.wanted) (shown l.types l.values);
}
