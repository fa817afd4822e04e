use Rattle.std.proofs.Common.{◌≡◌, ◌++◌, length, drop, map}
use Rattle.std.specs.List.{AllByRecursion}
use Rattle.go_stmts_defs.specs.Rules.{known_type}
use Rattle.go_exprs_calls.specs.Shown.{shown}
use Rattle.go_stmts_rules.specs.Seen.{wanted_seen, KnownWanted, locals_in}
use Rattle.go_stmts_rules.proofs.wanted.known_types.Given as goal

abbrev pub invariant-loop-name : goal.invariant-loop-name
invariant-loop-name l = record {
  known : AllByRecursion (KnownWanted (length l.types.shapes)) l.wanted.items;
  taken : wanted_seen l.types l.wanted.items ++ map (known_type (locals_in l.types l.locals)) (shown l.types (drop l.name-index l.names)) ≡ map (known_type (locals_in l.types l.locals)) (shown l.types l.names);
}
