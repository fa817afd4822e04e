use Rattle.std.proofs.Common.{◌≡◌, ◌∙◌, ℕ, ◌+◌, ◌∷◌, Some, drop, ap, sym, subst}
use Rattle.std.specs.HashMap.{get}
use Rattle.go_typed.specs.Trees.{Typeds}
use Rattle.go_typed.specs.Views.{view, views}
use Rattle.clone_window.proofs.Public.{views-at}
use Rattle.clone_report.specs.declared.tally.Tally.{Tally}
use Rattle.clone_report.specs.Ends.{same_start}
use Rattle.clone_report.proofs.Counted.{AlongLeft, along-more, along-skip, stands-now}
use Rattle.clone_report.proofs.coverage.+counting.Goals as goal
use Rattle.clone_report.proofs.coverage.+counting.Goals.{count_along-in-Some+in_ok-count_own+in_ok-behind-2+in_ok-index, count_along-in_default}

pub count_along-loop-part-preserved : goal.count_along-loop-part-preserved
count_along-loop-part-preserved t c =
    let g = get same_start c.args.ends.now in
    let f = c.args.func in
    let inside = c.args.inside in
    let list = c.args.list.number in
    let ahead = c.args.list.ahead in
    let first = list + 1 in
    let parts = c.args.parts.now in
    let i = c.loop-part.part-index in
    let old = c.args.tally.now in
    let now = c.loop-part.tally in
    let behind = c.loop-part.behind in
    let index = c.loop-part.index in
    let end = c.loop-part.end in
    let rest = views (drop (i + 1) parts) in
    let P : Typeds ℕ → Type 0 = λ ps. AlongLeft g f inside list ahead first behind index end (views parts) ps old now in
    let here : views (drop i parts) ≡ views (c.part-item.result ∷ drop (i + 1) parts) = views-at parts i c.part-item.result c.loop-part-test.true c.part-item.is in
    elim c.match-part.branch [
      | count_along-in-Some+in_ok-count_own+in_ok-behind-2+in_ok-index w ↦
          let there : views (drop i parts) ≡ views (Some w.in-Some.node ∷ drop (i + 1) parts) = here ∙ ap (λ p. views (p ∷ drop (i + 1) parts)) w.in-Some.is in
          along-more g f inside list ahead first behind c.match-part.behind index c.match-part.index end c.match-part.end w.is_covered-covered.result (views parts) (view w.in-Some.node) rest
          old now w.count_own.new.tally c.match-part.tally
          (subst P there c.loop-part.invariant)
          (w.end-is ∙ w.end_from-end.ensures)
          (stands-now g f list ahead index w.end_from-end.result inside w.is_covered-covered.result w.end_from-end.ensures w.is_covered-covered.ensures)
          w.in_ok-count_own.ensures
          (w.behind-is ∙ w.in_ok-behind-2.ensures.number)
          (w.tally-is ∙ w.in_ok-behind-2.ensures.counted)
          (w.index-is ∙ w.in_ok-index.ensures)
      | count_along-in_default w ↦
          let B : ℕ → Type 0 = λ n. AlongLeft g f inside list ahead first n c.match-part.index c.match-part.end (views parts) rest old c.match-part.tally in
          let I : ℕ → Type 0 = λ n. AlongLeft g f inside list ahead first behind n c.match-part.end (views parts) rest old c.match-part.tally in
          let E : ℕ → Type 0 = λ n. AlongLeft g f inside list ahead first behind index n (views parts) rest old c.match-part.tally in
          let T : Tally → Type 0 = λ u. AlongLeft g f inside list ahead first behind index end (views parts) rest old u in
          subst B (sym w.behind-is) (subst I (sym w.index-is) (subst E (sym w.end-is) (subst T (sym w.tally-is)
          (along-skip g f inside list ahead first behind index end (views parts) rest old now
          (subst P (here ∙ ap (λ p. views (p ∷ drop (i + 1) parts)) w.in_default.is) c.loop-part.invariant)))))
    ]
