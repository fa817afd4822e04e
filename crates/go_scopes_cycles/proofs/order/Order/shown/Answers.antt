use Rattle.std.proofs.Common.{◌≡◌, ◌∙◌, true, map, sym}
use Rattle.go_scopes_cycles.specs.Ranks.{is_above, are_ranked}
use Rattle.go_scopes_cycles.specs.Order.{is_placed}
use Rattle.go_scopes_lookup.specs.Views.{found_view, asked_view}
use Rattle.go_scopes_cycles.proofs.Circled.{circle_needs}
use Rattle.go_scopes_cycles.proofs.Ranked.{both_left, both_right, not_itself}
use Rattle.go_scopes_cycles.proofs.order.Order.shown.Goals as goal

pub returns-then-is_placed-clause-itself : goal.returns-then-is_placed-clause-itself
returns-then-is_placed-clause-itself c =
    let o = c.args.self.now in
    let asks = map asked_view c.args.lookups.now in
    let d = found_view c.args.d.now in
    let placed : is_placed o d ≡ true = sym c.is_placed.ensures ∙ c.if-is_placed.true in
    let ranked : are_ranked o.bounds o.ranks asks ≡ true = sym c.requires.1 ∙ both_left o.holds (is_above o.bounds o.ranks d) placed in
    sym (not_itself o.bounds o.ranks asks c.args.rounds d c.requires.0 ranked (both_right o.holds (is_above o.bounds o.ranks d) placed))

pub returns-then-is_circle-clause-itself : goal.returns-then-is_circle-clause-itself
returns-then-is_circle-clause-itself c =
    let asks = map asked_view c.args.lookups.now in
    sym (circle_needs asks c.args.rounds (found_view c.args.d.now) c.deref.result.now (c.requires.2 c.if-self.true) (sym c.is_circle.ensures ∙ c.if-is_circle.true))
