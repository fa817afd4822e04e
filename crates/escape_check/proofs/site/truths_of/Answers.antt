use Rattle.std.proofs.Common.{◌∙◌, get_or, refl, sym, ap}
use Rattle.std.specs.List.{list_any}
use Rattle.std.specs.Option.{option_map}
use Rattle.param_choose.specs.Shown.{hole_view}
use Rattle.escape_check.specs.Types.{needed_truths, truth_at}
use Rattle.escape_check.proofs.AtSites.{truth_more}
use Rattle.escape_check.proofs.site.truths_of.Goals as goal

pub loop-number-preserved : goal.loop-number-preserved
loop-number-preserved c = λ m test same.
    let ns = c.args.numbers.now in
    let i = c.loop-number.number-index in
    truth_more test c.args.holes.now m ns i (get_or ns i 0) 0 c.loop-number.found c.with-found.result c.truth_at.result (list_any test (needed_truths ns m)) c.loop-number-test.true refl same
    c.with-found.ensures.yes c.with-found.ensures.no (c.truth_at.ensures ∙ ap (λ o. truth_at (option_map hole_view o)) (sym c.hole_at.ensures)) (c.loop-number.invariant m test same)
