use Rattle.std.proofs.Common.{◌≡◌, drop, map}
use Rattle.go_scopes_lookup.specs.Views.{found_view}
use Rattle.go_scopes_cycles.specs.Order.{are_placed}
use Rattle.go_scopes_cycles.proofs.order.Order.are_placed.Given as goal

abbrev pub invariant-loop-d : goal.invariant-loop-d
invariant-loop-d l = are_placed l.self (map found_view (drop l.d-index l.declared)) ≡ are_placed l.self (map found_view l.declared)
