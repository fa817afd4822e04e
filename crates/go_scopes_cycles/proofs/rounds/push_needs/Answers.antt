use Rattle.std.proofs.Common.{◌≡◌, ◌+◌, ◌∙◌, ◌∷◌, [], drop, map, sym, ap}
use Rattle.go_tree.specs.Needs.{with_all, needs}
use Rattle.go_scopes_lookup.specs.Views.{asked_view}
use Rattle.go_scopes_cycles.specs.Views.{needed_view}
use Rattle.go_scopes_cycles.proofs.AllNeeded.{drop_read, needs_more}
use Rattle.go_scopes_cycles.proofs.rounds.push_needs.Goals as goal

pub loop-a-preserved : goal.loop-a-preserved
loop-a-preserved c =
    let x = needed_view c.args.x.now in
    let i = c.loop-a.a-index in
    let xs = c.args.lookups.now in
    let a = c.a-item.result in
    let before = map needed_view c.loop-a.out.items in
    let here : drop i xs ≡ a ∷ drop (i + 1) xs = drop_read xs i a c.loop-a-test.true c.a-item.is in
    let one : with_all (needs (map asked_view (drop i xs)) x) before ≡ with_all (needs (map asked_view (drop (i + 1) xs)) x) (with_all (needs (asked_view a ∷ []) x) before) =
    ap (λ rest. with_all (needs (map asked_view rest) x) before) here ∙ needs_more (asked_view a) (map asked_view (drop (i + 1) xs)) x before in
    ap (λ all. with_all (needs (map asked_view (drop (i + 1) xs)) x) all) c.in_ok-push_needed.ensures ∙ sym one ∙ c.loop-a.invariant
