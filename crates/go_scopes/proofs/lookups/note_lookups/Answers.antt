use Rattle.std.proofs.Common.{◌≡◌, ◌∷◌, ◌+◌, ◌∙◌, [], drop, map, sym, ap}
use Rattle.std.specs.Option.{option_map}
use Rattle.go_tree.specs.Failures.{place_if}
use Rattle.go_scopes_lookup.specs.Views.{place_of, asked_view}
use Rattle.go_scopes_cycles.proofs.Public.{drop_read}
use Rattle.go_scopes.specs.LookupRules.{code_of, fails, place_by, places_by}
use Rattle.go_scopes.specs.Noted.{noted}
use Rattle.go_scopes.specs.Views.{failure_of}
use Rattle.go_scopes.proofs.LookupRules.{noted_lookup}
use Rattle.go_scopes.proofs.lookups.note_lookups.Goals as goal

pub loop-a-preserved : goal.loop-a-preserved
loop-a-preserved c =
    let r = c.args.rule in
    let xs = c.args.all.now in
    let i = c.loop-a.a-index in
    let x = c.a-item.result in
    let f = option_map failure_of c.loop-a.found in
    let g = option_map failure_of c.note-found.result in
    let here : drop i xs ≡ x ∷ drop (i + 1) xs = drop_read xs i x c.loop-a-test.true c.a-item.is in
    let one : g ≡ noted f (code_of r) (place_if (fails r (asked_view x)) (place_by r (asked_view x)) []) =
    c.note-found.ensures
    ∙ ap (λ k. noted f k (place_if c.fails.result (place_of c.place_of.result) [])) c.code_of.ensures
    ∙ ap (λ b. noted f (code_of r) (place_if b (place_of c.place_of.result) [])) c.fails.ensures
    ∙ ap (λ s. noted f (code_of r) (place_if (fails r (asked_view x)) s [])) c.place_of.ensures in
    noted_lookup f g r (asked_view x) (map asked_view (drop (i + 1) xs)) one
    ∙ sym (ap (λ l. noted f (code_of r) (places_by r (map asked_view l))) here)
    ∙ c.loop-a.invariant
