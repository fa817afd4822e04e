use Rattle.std.proofs.Common.{◌≡◌, ◌∙◌, ℕ, ◌+◌, ◌++◌, List, drop, map, ap, sym, append_assoc}
use Rattle.go_grammar.specs.Trees.{first}
use Rattle.go_tree.specs.Lists.{functions}
use Rattle.clone_window.specs.declared.span.FunctionPlace.{FunctionPlace}
use Rattle.clone_window.specs.Spans.{place_at, places_from, starts_in}
use Rattle.clone_window.proofs.Places.{places-at}
use Rattle.clone_window.proofs.span.function_places.Goals as goal

pub loop-index-preserved : goal.loop-index-preserved
loop-index-preserved c =
    let files = c.args.files.now in
    let i = c.loop-index.index in
    let f = c.index-files-index.result in
    let old = c.loop-index.places.items in
    let rest : List FunctionPlace = places_from (i + 1) (drop (i + 1) files) in
    c.loop-index.invariant
    ∙ ap (λ l. old ++ l) (places-at files i f c.loop-index-test.true c.index-files-index.is)
    ∙ sym (append_assoc old (map (place_at i) (starts_in f)) rest)
    ∙ ap (λ l. l ++ rest) (sym (c.in_ok-push_places.ensures ∙ ap (λ ps. old ++ map (place_at i) (map first (functions ps))) c.declarations.ensures))
