use Rattle.std.proofs.Common.{◌≡◌, ◌∙◌, Some, length, slice_get, refl, ap, sym}
use Rattle.std.specs.HashMap.{get}
use Rattle.std.proofs.lemmas.Option.{slice_get_read}
use Rattle.clone_report.specs.Ends.{same_start, stands_by}
use Rattle.clone_report.proofs.Counted.{from-more}
use Rattle.clone_report.proofs.coverage.tally_of.Goals as goal

pub loop-f-preserved : goal.loop-f-preserved
loop-f-preserved c =
    let fs = c.args.checked.now.functions in
    let items = c.functions-f-items.result.now in
    let i = c.loop-f.f-index in
    let f = c.f-item.result in
    let e : slice_get fs i ≡ Some f = ap (λ l. slice_get l i) (sym c.functions-f-items.ensures) ∙ slice_get_read items (length items) i f refl c.loop-f-test.true c.f-item.is in
    from-more (stands_by (get same_start c.args.ends.now)) c.args.places.now c.args.file i fs f (record { covered = 0; statements = 0 }) c.loop-f.tally c.count_function.new.tally
    c.types-types.ensures.stands.numbers e c.loop-f.invariant c.in_ok-count_function.ensures
