use Rattle.std.proofs.Common.{◌≡◌, ◌+◌, Ok, Err, map, drop, slice_get, sym, ap, ◌∙◌}
use Rattle.go_grammar.specs.Trees.{first}
use Rattle.go_tree.specs.Lists.{functions}
use Rattle.clone_window.specs.Spans.{place_at, places_from, sought, starts_in}
use Rattle.clone_window.proofs.Places.{places-at, sought-here, sought-behind}
use Rattle.clone_window.proofs.span.function_place.Goals as goal

pub returns-in-Ok : goal.returns-in-Ok
returns-in-Ok c =
    let files = c.args.files.now in
    let i = c.loop-index.index in
    let f = c.index-files-index.result in
    let found : sought (starts_in f) c.loop-index.left ≡ Ok c.in-Ok.first = sym (ap (λ ps. sought (map first (functions ps)) c.loop-index.left) c.declarations.ensures) ∙ sym c.nth_function.ensures ∙ c.in-Ok.is in
    sym (
    c.loop-index.invariant
    ∙ ap (λ l. slice_get l c.loop-index.left) (places-at files i f c.loop-index-test.true c.index-files-index.is)
    ∙ sought-here (place_at i) (starts_in f) (places_from (i + 1) (drop (i + 1) files)) c.loop-index.left c.in-Ok.first found
    )

pub loop-index-preserved : goal.loop-index-preserved
loop-index-preserved c =
    let files = c.args.files.now in
    let i = c.loop-index.index in
    let f = c.index-files-index.result in
    let found : sought (starts_in f) c.loop-index.left ≡ Err c.in-Err.behind = sym (ap (λ ps. sought (map first (functions ps)) c.loop-index.left) c.declarations.ensures) ∙ sym c.nth_function.ensures ∙ c.in-Err.is in
    c.loop-index.invariant
    ∙ ap (λ l. slice_get l c.loop-index.left) (places-at files i f c.loop-index-test.true c.index-files-index.is)
    ∙ sought-behind (place_at i) (starts_in f) (places_from (i + 1) (drop (i + 1) files)) c.loop-index.left c.in-Err.behind found
