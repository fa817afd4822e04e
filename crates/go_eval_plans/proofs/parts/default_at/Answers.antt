use Rattle.std.proofs.Common.{◌≡◌, ◌≤◌, ◌+◌, suc, Some, refl, sym, ap, ◌∙◌, arith, drop, length, slice_get}
use Rattle.std.proofs.lemmas.Option.{slice_get_read}
use Rattle.std.proofs.lemmas.List.{drop_all}
use Rattle.go_typed.specs.Trees.{all_mapped}
use Rattle.go_typed.specs.Views.{views}
use Rattle.go_meaning.specs.Planning.{default_at}
use Rattle.go_eval_plans.proofs.Seen.{default_here, default_later}
use Rattle.go_eval_plans.proofs.parts.default_at.Goals as goal

pub returns-then-is_default : goal.returns-then-is_default
returns-then-is_default c f =
    let xs = c.args.parts.now in
    let i = c.loop-place.place in
    let r = c.index-parts-place.result in
    let there : slice_get xs i ≡ Some r = slice_get_read xs (length xs) i r refl c.loop-place-test.true c.index-parts-place.is in
    let here : default_at (all_mapped f (views (drop i xs))) ≡ 0 = default_here f xs i r there (sym (c.is_default.ensures f) ∙ c.if-is_default.true) in
    omega (arith, c.loop-place.invariant.0 f, here)

pub loop-place-preserved : goal.loop-place-preserved
loop-place-preserved c =
    let xs = c.args.parts.now in
    let i = c.loop-place.place in
    let r = c.index-parts-place.result in
    let there : slice_get xs i ≡ Some r = slice_get_read xs (length xs) i r refl c.loop-place-test.true c.index-parts-place.is in
    let next : suc i ≡ i + 1 = omega arith in (
      λ f. let later : default_at (all_mapped f (views (drop i xs))) ≡ suc (default_at (all_mapped f (views (drop (i + 1) xs))))
          = default_later f xs i r there (sym (c.is_default.ensures f) ∙ c.if-is_default.false) ∙ ap (λ k. suc (default_at (all_mapped f (views (drop k xs))))) next in
          omega (arith, c.loop-place.invariant.0 f, later),
      omega (arith, c.loop-place-test.true),
    )

pub returns : goal.returns
returns c f =
    let xs = c.args.parts.now in
    let i = c.loop-place.place in
    let ended : length xs ≤ i = omega (arith, c.loop-place-test.false) in
    let none : default_at (all_mapped f (views (drop i xs))) ≡ 0 = ap (λ ys. default_at (all_mapped f (views ys))) (drop_all i xs ended) in
    omega (arith, c.loop-place.invariant.0 f, none, ended, c.loop-place.invariant.1)
