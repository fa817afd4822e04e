use Rattle.std.proofs.Common.{◌≡◌, ◌++◌, All, length, drop, map}
use Rattle.std.specs.Option.{option_map}
use Rattle.go_types.specs.Tables.{type_of}
use Rattle.go_stmts_defs.specs.Rules.{type_or_rest}
use Rattle.go_exprs_calls.specs.Shown.{shown}
use Rattle.go_stmts_rules.specs.Seen.{taking_seen, KnownTaking}
use Rattle.go_stmts_rules.proofs.values.push_each.Given as goal

abbrev pub invariant-loop : goal.invariant-loop
invariant-loop l = record {
  known : All (KnownTaking (length l.types.shapes)) l.takings.items;
  taken : map (taking_seen l.types) l.takings.items ++ map (λ x. type_or_rest (option_map (type_of l.types.shapes) l.of)) (shown l.types (drop l.index l.values)) ≡ map (taking_seen l.types) l.initial.takings.items ++ map (λ x. type_or_rest (option_map (type_of l.types.shapes) l.of)) (shown l.types l.values);
}
