use Rattle.std.proofs.Common.{◌≡◌, ◌≤◌, Some, ◌∙◌, arith, slice_get, refl, length, ap}
use Rattle.std.proofs.lemmas.Option.{slice_get_read}
use Rattle.go_typed.specs.Funcs.{size, sizes}
use Rattle.go_typed.specs.Views.{view, views}
use Rattle.go_typed_parts.proofs.Opened.{size_part}
use Rattle.go_typed_parts.proofs.tests.+tiled.Goals as goal

pub are_tiled-is_tiled-requires : goal.are_tiled-is_tiled-requires
are_tiled-is_tiled-requires t c =
    let parts = c.args.parts.now in
    let i = c.loop-part.part-index in
    let there : slice_get parts i ≡ Some (Some c.in-Some.node) = slice_get_read parts (length parts) i c.part-item.result refl c.loop-part-test.true c.part-item.is ∙ ap Some c.in-Some.is in
    let low : size (view c.in-Some.node) ≤ sizes (views parts) = size_part parts i c.in-Some.node there in
    (omega (arith, low, c.decreases), tt)
