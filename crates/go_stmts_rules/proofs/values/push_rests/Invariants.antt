use Rattle.std.proofs.Common.{◌≡◌, ◌++◌, All, length, drop, map}
use Rattle.go_stmts_defs.specs.Rules.{rest}
use Rattle.go_exprs_calls.specs.Shown.{shown}
use Rattle.go_stmts_rules.specs.Seen.{taking_seen, KnownTaking}
use Rattle.go_stmts_rules.proofs.values.push_rests.Given as goal

abbrev pub invariant-loop : goal.invariant-loop
invariant-loop l = record {
  known : All (KnownTaking (length l.types.shapes)) l.takings.items;
  taken : map (taking_seen l.types) l.takings.items ++ rest (length (shown l.types (drop l.index l.nodes))) ≡ map (taking_seen l.types) l.initial.takings.items ++ rest (length (shown l.types l.nodes));
}
