use Rattle.std.proofs.Common.{◌≡◌, ◌<◌, ◌∙◌, ap, length, Some, slice_get, refl, arith}
use Rattle.std.proofs.lemmas.Option.{slice_get_read}
use Rattle.go_tree.specs.Views.{view, views}
use Rattle.go_tree.proofs.Heights.{height, heights, height-part}
use Rattle.go_tree.proofs.statement_lists.+lists.Goals as goal

pub push_among-push_lists-requires : goal.push_among-push_lists-requires
push_among-push_lists-requires t c =
    let there : slice_get c.args.parts.now c.loop-part.part-index ≡ Some (Some c.in-Some.node) =
    slice_get_read c.args.parts.now (length c.args.parts.now) c.loop-part.part-index c.part-item.result refl c.loop-part-test.true c.part-item.is ∙ ap Some c.in-Some.is in
    let low : height (view c.in-Some.node) < heights (views c.args.parts.now) = height-part c.args.parts.now c.loop-part.part-index c.in-Some.node there in
    (omega (arith, low, c.decreases), tt)
