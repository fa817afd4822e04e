use Rattle.std.proofs.Common.{◌≡◌, ◌++◌, length, drop, map}
use Rattle.std.specs.List.{AllByRecursion}
use Rattle.go_stmts_defs.specs.Rules.{target_type}
use Rattle.go_exprs_calls.specs.Shown.{shown, AllShownKnown}
use Rattle.go_stmts_rules.specs.Seen.{wanted_seen, KnownWanted}
use Rattle.go_stmts_rules.proofs.wanted.target_types.Given as goal

abbrev pub invariant-loop-target : goal.invariant-loop-target
invariant-loop-target l = record {
  known : AllByRecursion (KnownWanted (length l.types.shapes)) l.wanted.items;
  left : AllShownKnown (length l.types.shapes) (drop l.target-index l.targets);
  taken : wanted_seen l.types l.wanted.items ++ map (target_type) (shown l.types (drop l.target-index l.targets)) ≡ map (target_type) (shown l.types l.targets);
}
