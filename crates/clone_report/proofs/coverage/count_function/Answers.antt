use Rattle.std.proofs.Common.{◌∙◌, false, ap, sym, slice_get}
use Rattle.std.specs.HashMap.{get}
use Rattle.go_typed.specs.Views.{view}
use Rattle.clone_report.specs.Covered.{is_placed, statements_in}
use Rattle.clone_report.specs.Ends.{added, same_start, stands_by}
use Rattle.clone_report.proofs.Steps.{elsewhere-counted, there-counted}
use Rattle.clone_report.proofs.coverage.count_function.Goals as goal

pub returns-then-not-is_placed : goal.returns-then-not-is_placed
returns-then-not-is_placed c =
    let f = c.args.f.now in
    let places = c.args.places.now in
    elsewhere-counted (stands_by (get same_start c.args.ends.now)) places c.args.file f c.args.tally.now
    (sym c.if-not-is_placed.true ∙ c.is_placed.ensures ∙ ap (λ n. is_placed c.args.file (slice_get places n)) c.number-number.ensures)

pub returns : goal.returns
returns c =
    let f = c.args.f.now in
    let places = c.args.places.now in
    let s = stands_by (get same_start c.args.ends.now) in
    there-counted s places c.args.file f c.args.tally.now c.count_in.new.tally
    (sym c.if-not-is_placed.false ∙ c.is_placed.ensures ∙ ap (λ n. is_placed c.args.file (slice_get places n)) c.number-number.ensures)
    (c.in_ok-count_in.ensures.counted
    ∙ ap (λ n. added c.args.tally.now (statements_in (s n) false 0 (view c.root.result.now))) c.number-number.ensures
    ∙ ap (λ r. added c.args.tally.now (statements_in (s f.number) false 0 (view r))) c.root.ensures.root)
