use Rattle.std.proofs.Common.{◌≡◌, ◌∙◌, ◌++◌, ap}
use Rattle.std.specs.Prelude.{sum_by}
use Rattle.go_scopes_lookup.specs.Views.{place_of}
use Rattle.escape_check.specs.Places.{sources_in}
use Rattle.escape_check.specs.Shown.{member_view}
use Rattle.extract_texts.specs.Shown.{numbers_shown, places_at}
use Rattle.extract_rewrite.specs.Counts.{comments_in}
use Rattle.extract_rewrite.proofs.Seen.{dropped_seen}
use Rattle.extract_rewrite.proofs.dropped.dropped_comments.Goals as goal

pub returns : goal.returns
returns c =
    let p = c.args.checked.now in
    let t = c.args.template.now in
    let windows = c.in_ok-spans.spans.items in
    let holes = c.in_ok-holes.holes.items in
    let joined : c.extend_from_slice.new.self.items ≡ windows ++ holes = c.in_ok-extend_from_slice.ensures.items ∙ ap (λ l. windows ++ l) c.deref-2.ensures.value in
    c.in_ok-total.ensures
    ∙ ap (sum_by (λ x. comments_in (sources_in p) (place_of x))) (c.deref-3.ensures.value ∙ joined)
    ∙ dropped_seen p t c.args.others.now windows holes c.requires.template c.requires.others c.in_ok-spans.ensures
    (c.in_ok-holes.ensures ∙ ap (λ hs. places_at (sources_in p) (member_view t.member) (numbers_shown hs)) c.deref.ensures.value)
