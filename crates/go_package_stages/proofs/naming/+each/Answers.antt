use Rattle.std.proofs.Common.{◌≡◌, ◌<◌, ◌∙◌, Some, length, slice_get, refl, ap, arith}
use Rattle.std.proofs.lemmas.Option.{slice_get_read}
use Rattle.go_tree.specs.Views.{view, views}
use Rattle.go_tree.proofs.Public.{height, heights, height-part}
use Rattle.go_package_stages.proofs.naming.+each.Goals as goal

pub add_parts-add_names-requires : goal.add_parts-add_names-requires
add_parts-add_names-requires t c =
    let parts = c.args.parts.now in
    let i = c.loop-part.part-index in
    let there : slice_get parts i ≡ Some (Some c.in-Some.node) = slice_get_read parts (length parts) i c.part-item.result refl c.loop-part-test.true c.part-item.is ∙ ap Some c.in-Some.is in
    let low : height (view c.in-Some.node) < heights (views parts) = height-part parts i c.in-Some.node there in
    (omega (arith, low, c.decreases), tt)
