use Rattle.std.proofs.Common.{ℕ, ◌+◌, ◌∙◌, sym, ap}
use Rattle.std.proofs.lemmas.List.Sums.{sum_by_more}
use Rattle.go_base.specs.declared.Span.{Span}
use Rattle.go_scopes_lookup.specs.Views.{place_of}
use Rattle.escape_check.specs.Places.{sources_in}
use Rattle.extract_rewrite.specs.Counts.{comments_in}
use Rattle.extract_rewrite.proofs.dropped.comments_within.Goals as goal

pub loop-span-preserved : goal.loop-span-preserved
loop-span-preserved c =
    let told : Span → ℕ = λ x. comments_in (sources_in c.args.checked.now) (place_of x) in
    let one = c.comments_in.ensures ∙ ap told c.span-item.is in
    c.in_ok-total.ensures ∙ (λ j. c.loop-span.invariant j + one j) ∙ sym (sum_by_more told c.args.spans.now c.loop-span.span-index c.span-item.result c.loop-span-test.true)
