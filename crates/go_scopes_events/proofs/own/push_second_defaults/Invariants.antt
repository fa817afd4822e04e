use Rattle.std.proofs.Common.{◌≡◌, ◌++◌, false, drop}
use Rattle.go_tree.specs.Views.{views}
use Rattle.go_tree.specs.Events.{second_defaults}
use Rattle.go_scopes_events.proofs.own.push_second_defaults.Given as goal

abbrev pub invariant-loop-place : goal.invariant-loop-place
invariant-loop-place l = l.out.items ++ second_defaults l.before (views (drop l.place-index l.clauses)) ≡ l.fn.out.items ++ second_defaults false (views l.clauses)
