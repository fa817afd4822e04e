use Rattle.std.proofs.Common.{◌≡◌, ◌++◌, All, length, map, replicate}
use Rattle.go_typed.specs.Trees.{Unknown}
use Rattle.go_stmts_defs.specs.Assigning.{stands}
use Rattle.go_stmts_rules.specs.Seen.{taking_seen, KnownTaking}
use Rattle.go_stmts_rules.proofs.names.push_unknown.Given as goal

abbrev pub invariant-loop-left : goal.invariant-loop-left
invariant-loop-left l = record {
  known : All (KnownTaking (length l.types.shapes)) l.takings.items;
  taken : map (taking_seen l.types) l.takings.items ++ replicate l.left (stands Unknown) ≡ map (taking_seen l.types) l.initial.takings.items ++ replicate l.count (stands Unknown);
}

abbrev pub decreases-loop-left : goal.decreases-loop-left
decreases-loop-left l = l.left
