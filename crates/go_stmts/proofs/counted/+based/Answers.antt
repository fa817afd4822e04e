use Rattle.std.proofs.Common.{◌≡◌, ◌<◌, ◌++◌, [], Some, length, map, drop, slice_get, refl, ap, sym, ◌∙◌, append-nil, arith}
use Rattle.std.proofs.lemmas.List.{drop_all}
use Rattle.std.proofs.lemmas.Option.{slice_get_read}
use Rattle.std.specs.Option.{option_map}
use Rattle.go_tree.specs.Views.{view, views}
use Rattle.go_tree.proofs.Public.{height, heights, height-part}
use Rattle.go_stmts_defs.specs.Bodies.{based}
use Rattle.go_stmts.proofs.Bases.{all_is}
use Rattle.go_stmts.proofs.counted.+based.Goals as goal

pub all_based-based-requires : goal.all_based-based-requires
all_based-based-requires t c =
    let row = c.args.parts.now in
    let i = c.loop-part.part-index in
    let there : slice_get row i ≡ Some (Some c.in-Some.node) = slice_get_read row (length row) i c.part-item.result refl c.loop-part-test.true c.part-item.is ∙ ap Some c.in-Some.is in
    let low : height (view c.in-Some.node) < heights (views row) = height-part row i c.in-Some.node there in
    (omega (arith, low, c.decreases), tt)

pub all_based-returns : goal.all_based-returns
all_based-returns t c =
    let row = c.args.parts.now in
    let out = c.loop-part.out.items in
    let g = option_map (based c.args.base) in
    let none : drop c.loop-part.part-index row ≡ [] = drop_all c.loop-part.part-index row (omega (arith, c.loop-part-test.false)) in
    all_is c.args.base row out (sym (append-nil (map (option_map view) out)) ∙ ap (λ ys. map (option_map view) out ++ map g (map (option_map view) ys)) (sym none) ∙ c.loop-part.invariant)
