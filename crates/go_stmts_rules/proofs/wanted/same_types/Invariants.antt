use Rattle.std.proofs.Common.{◌≡◌, ◌++◌, length, replicate}
use Rattle.std.specs.List.{AllByRecursion}
use Rattle.std.specs.Option.{option_map}
use Rattle.go_types.specs.Tables.{type_of}
use Rattle.go_stmts_rules.specs.Seen.{wanted_seen, KnownWanted}
use Rattle.go_stmts_rules.proofs.wanted.same_types.Given as goal

abbrev pub invariant-loop-left : goal.invariant-loop-left
invariant-loop-left l = record {
  known : AllByRecursion (KnownWanted (length l.types.shapes)) l.wanted.items;
  taken : wanted_seen l.types l.wanted.items ++ replicate l.left (option_map (type_of l.types.shapes) l.of) ≡ replicate l.count (option_map (type_of l.types.shapes) l.of);
}

abbrev pub decreases-loop-left : goal.decreases-loop-left
decreases-loop-left l = l.left
