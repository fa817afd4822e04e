use Rattle.std.proofs.Common.{◌≡◌, ◌++◌, length, drop, map}
use Rattle.std.specs.List.{AllByRecursion}
use Rattle.go_typed.specs.Trees.{sort_of}
use Rattle.go_exprs_rules.specs.Sorts.{value_type}
use Rattle.go_exprs_calls.specs.Shown.{shown, AllShownKnown}
use Rattle.go_stmts_rules.specs.Seen.{wanted_seen, KnownWanted}
use Rattle.go_stmts_rules.proofs.names.own_types.Given as goal

abbrev pub invariant-loop-value : goal.invariant-loop-value
invariant-loop-value l = record {
  known : AllByRecursion (KnownWanted (length l.types.shapes)) l.own.items;
  left : AllShownKnown (length l.types.shapes) (drop l.value-index l.values);
  taken : wanted_seen l.types l.own.items ++ map (λ x. value_type (sort_of x)) (shown l.types (drop l.value-index l.values)) ≡ map (λ x. value_type (sort_of x)) (shown l.types l.values);
}
