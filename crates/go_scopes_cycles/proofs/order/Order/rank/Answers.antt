use Rattle.std.proofs.Common.{◌∙◌, sym, subst}
use Rattle.go_scopes_cycles.specs.Order.{NeedsBelow}
use Rattle.go_scopes_lookup.specs.Views.{found_view}
use Rattle.go_scopes_cycles.proofs.Below.{needs_below}
use Rattle.go_scopes_cycles.proofs.order.Order.rank.Goals as goal

pub returns-then-is_above-clause-below : goal.returns-then-is_above-clause-below
returns-then-is_above-clause-below c asks h =
    let o = c.args.self.now in
    let d = found_view c.args.d.now in
    subst (λ r. NeedsBelow o r asks d) (sym c.rank_of.ensures) (needs_below o asks d h.0 (sym h.3 ∙ c.if-self.true) (sym c.is_above.ensures ∙ c.if-is_above.true))
