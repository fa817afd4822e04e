use Rattle.std.proofs.Common.{◌≡◌, drop}
use Rattle.go_tree.specs.Views.{views}
use Rattle.go_tree.specs.Events.{is_more}
use Rattle.go_scopes_events.proofs.walk.is_more.Given as goal

abbrev pub invariant-loop-place : goal.invariant-loop-place
invariant-loop-place l = is_more (views l.rest) ≡ is_more (views (drop l.place-index l.rest))
