use Rattle.std.proofs.Common.{◌≡◌, ◌++◌, ◌-◌, All, length, drop, map, replicate}
use Rattle.std.specs.Option.{option_map}
use Rattle.go_types.specs.Tables.{type_of}
use Rattle.go_stmts_defs.specs.Assigning.{constants_take}
use Rattle.go_exprs_calls.specs.Shown.{shown}
use Rattle.go_stmts_rules.specs.Seen.{taking_seen, KnownTaking}
use Rattle.go_stmts_rules.proofs.names.push_constants.Given as goal

abbrev pub invariant-loop-number : goal.invariant-loop-number
invariant-loop-number l = record {
  known : All (KnownTaking (length l.types.shapes)) l.takings.items;
  taken : map (taking_seen l.types) l.takings.items ++ constants_take (option_map (type_of l.types.shapes) l.of) (replicate (l.count - l.number) (option_map (type_of l.types.shapes) l.of)) (shown l.types (drop l.number l.values)) ≡ map (taking_seen l.types) l.initial.takings.items ++ constants_take (option_map (type_of l.types.shapes) l.of) (replicate l.count (option_map (type_of l.types.shapes) l.of)) (shown l.types l.values);
}
