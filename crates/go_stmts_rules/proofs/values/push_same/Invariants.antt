use Rattle.std.proofs.Common.{◌≡◌, ◌++◌, All, length, map, replicate}
use Rattle.go_exprs_rules.specs.Takes.{take_seen}
use Rattle.go_stmts_defs.specs.Assigning.{takes}
use Rattle.go_stmts_rules.specs.Seen.{taking_seen, KnownTaking}
use Rattle.go_stmts_rules.proofs.values.push_same.Given as goal

abbrev pub invariant-loop-left : goal.invariant-loop-left
invariant-loop-left l = record {
  known : All (KnownTaking (length l.types.shapes)) l.takings.items;
  taken : map (taking_seen l.types) l.takings.items ++ replicate l.left (takes (take_seen l.types l.take)) ≡ map (taking_seen l.types) l.initial.takings.items ++ replicate l.count (takes (take_seen l.types l.take));
}

abbrev pub decreases-loop-left : goal.decreases-loop-left
decreases-loop-left l = l.left
