use Rattle.std.proofs.Common.{◌≡◌, None, map, replicate}
use Rattle.std.specs.Option.{option_map}
use Rattle.go_typed.specs.Views.{sort_view}
use Rattle.go_stmts.proofs.content.no_locals.Given as goal

abbrev pub invariant-loop-number : goal.invariant-loop-number
invariant-loop-number l = map (option_map sort_view) l.sorts.items ≡ replicate l.number None
