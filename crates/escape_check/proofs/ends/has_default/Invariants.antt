use Rattle.std.proofs.Common.{◌≡◌, drop, map}
use Rattle.std.specs.List.{list_any}
use Rattle.std.specs.Option.{option_map}
use Rattle.go_typed.specs.Views.{seen}
use Rattle.go_stmts_defs.specs.Ending.{is_default_clause}
use Rattle.escape_check.specs.Called.{all_called}
use Rattle.escape_check.proofs.ends.has_default.Given as goal

abbrev pub invariant-loop-clause : goal.invariant-loop-clause
invariant-loop-clause l =
    list_any is_default_clause (all_called l.gap (map (option_map (seen l.types)) (drop l.clause-index l.clauses))) ≡ list_any is_default_clause (all_called l.gap (map (option_map (seen l.types)) l.clauses))
