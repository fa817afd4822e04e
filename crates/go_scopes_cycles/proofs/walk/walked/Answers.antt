use Rattle.std.proofs.Common.{◌≡◌, ◌∙◌, Some, None, map, get_or, sym, ap}
use Rattle.std.specs.Option.{option_map}
use Rattle.go_scopes_lookup.specs.Views.{asked_view}
use Rattle.go_scopes_cycles.specs.Circles.{step, walked}
use Rattle.go_scopes_cycles.specs.Views.{needed_view}
use Rattle.go_scopes_cycles.proofs.Circled.{lost_at}
use Rattle.go_scopes_cycles.proofs.walk.walked.Goals as goal

pub returns-in_err-x : goal.returns-in_err-x
returns-in_err-x c =
    let asks = map asked_view c.args.lookups.now in
    let names = c.args.names.now in
    let i = c.loop-name.name-index in
    let x = Some (needed_view c.loop-name.x) in
    let none : step asks x (get_or names i 0) ≡ None = sym c.step.ensures ∙ ap (option_map needed_view) c.in_err-x.was in
    ap (option_map needed_view) c.from_residual.ensures ∙ sym (lost_at asks x (walked asks (Some (needed_view c.args.first)) names) names i c.loop-name-test.true c.loop-name.invariant none)
