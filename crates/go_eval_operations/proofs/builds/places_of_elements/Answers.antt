use Rattle.std.proofs.Common.{◌≡◌, ◌++◌, ◌+◌, ℕ, List, Some, refl, ap, ◌∙◌, arith, rules, drop, length, slice_get}
use Rattle.std.proofs.lemmas.Option.{slice_get_read}
use Rattle.go_typed.specs.Trees.{all_mapped}
use Rattle.go_typed.specs.Views.{views}
use Rattle.go_meaning.specs.Planning.{places_from}
use Rattle.go_eval_operations.proofs.Building.{places_all, place_kept, place_pushed}
use Rattle.go_eval_operations.proofs.builds.places_of_elements.Goals as goal
use Rattle.go_eval_operations.proofs.builds.places_of_elements.Goals.{in-Some+in_ok-push-in-Some, in-None}

pub loop-next-preserved : goal.loop-next-preserved
loop-next-preserved c f =
    let xs = c.args.elements.now in
    let i = c.loop-next.next in
    let o = c.index-elements-next.result in
    let ps = c.loop-next.places.items in
    let R = places_from (i + 1) (all_mapped f (views (drop (i + 1) xs))) in
    let there : slice_get xs i ≡ Some o = slice_get_read xs (length xs) i o refl c.loop-next-test.true c.index-elements-next.is in
    elim c.match-element_place.branch [
      | in-Some+in_ok-push-in-Some w ↦ ap (λ (v : List ℕ). v ++ R) (search rules) ∙ place_pushed f xs i _ o ps there (w.in-Some.ensures f) ∙ c.loop-next.invariant f
      | in-None w ↦ ap (λ (v : List ℕ). v ++ R) (search rules) ∙ place_kept f xs i o ps there (w.in-None.ensures f) ∙ c.loop-next.invariant f
    ]

pub returns : goal.returns
returns c f = places_all f c.args.elements.now c.loop-next.next c.loop-next.places.items (omega (arith, c.loop-next-test.false)) ∙ c.loop-next.invariant f
