use Rattle.std.proofs.Common.{◌≡◌, ◌+◌, ◌∙◌, ◌∷◌, drop, map, sym, ap}
use Rattle.go_tree.specs.Needs.{needs_of, with_all, needs}
use Rattle.go_scopes_lookup.specs.Views.{asked_view}
use Rattle.go_scopes_cycles.specs.Views.{needed_view}
use Rattle.go_scopes_cycles.proofs.AllNeeded.{drop_read, round_more}
use Rattle.go_scopes_cycles.proofs.rounds.push_round.Goals as goal

pub loop-x-preserved : goal.loop-x-preserved
loop-x-preserved c =
    let asks = map asked_view c.args.lookups.now in
    let i = c.loop-x.x-index in
    let xs = c.args.from.now in
    let x = c.x-item.result in
    let before = map needed_view c.loop-x.out.items in
    let here : drop i xs ≡ x ∷ drop (i + 1) xs = drop_read xs i x c.loop-x-test.true c.x-item.is in
    let one : with_all (needs_of asks (map needed_view (drop i xs))) before ≡ with_all (needs_of asks (map needed_view (drop (i + 1) xs))) (with_all (needs asks (needed_view x)) before) =
    ap (λ rest. with_all (needs_of asks (map needed_view rest)) before) here ∙ round_more asks (needed_view x) (map needed_view (drop (i + 1) xs)) before in
    ap (λ all. with_all (needs_of asks (map needed_view (drop (i + 1) xs))) all) c.in_ok-push_needs.ensures ∙ sym one ∙ c.loop-x.invariant
