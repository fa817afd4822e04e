use Rattle.std.proofs.Common.{◌≡◌, ◌∙◌, true, map, sym}
use Rattle.go_scopes_lookup.specs.Views.{found_view}
use Rattle.go_scopes_cycles.specs.Order.{are_placed}
use Rattle.go_scopes_cycles.proofs.Sorted.{placed_in_order}
use Rattle.go_scopes_cycles.proofs.order.Order.in_order.Goals as goal

pub returns-clause-order : goal.returns-clause-order
returns-clause-order c asks h =
    let o = c.args.self.now in
    let ds = c.args.declared.now in
    let placed : are_placed o (map found_view ds) ≡ true = sym c.are_placed.ensures ∙ c.if-not-are_placed.false in
    placed_in_order o asks ds _ h placed c.in_ok-by_rank.ensures.all c.in_ok-by_rank.ensures.order
