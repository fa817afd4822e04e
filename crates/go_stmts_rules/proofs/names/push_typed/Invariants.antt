use Rattle.std.proofs.Common.{◌≡◌, ◌++◌, All, length, drop, map}
use Rattle.std.specs.List.{AllByRecursion}
use Rattle.go_stmts_defs.specs.Assigning.{names_take}
use Rattle.go_stmts_rules.specs.Seen.{taking_seen, KnownTaking, wanted_seen, KnownWanted}
use Rattle.go_stmts_rules.proofs.names.push_typed.Given as goal

abbrev pub invariant-loop-number : goal.invariant-loop-number
invariant-loop-number l = record {
  known : All (KnownTaking (length l.types.shapes)) l.takings.items;
  wanted : AllByRecursion (KnownWanted (length l.types.shapes)) (drop l.number l.wanted);
  given : AllByRecursion (KnownWanted (length l.types.shapes)) (drop l.number l.given);
  taken : map (taking_seen l.types) l.takings.items ++ names_take (wanted_seen l.types (drop l.number l.wanted)) (wanted_seen l.types (drop l.number l.given)) ≡ map (taking_seen l.types) l.initial.takings.items ++ names_take (wanted_seen l.types l.wanted) (wanted_seen l.types l.given);
}
