use Rattle.std.proofs.Common.{◌≡◌, ◌+◌, ◌++◌, drop}
use Rattle.go_typed.specs.Funcs.{sizes}
use Rattle.go_typed.specs.Views.{views}
use Rattle.param_choose.specs.Holes.{holes_among}
use Rattle.param_choose.specs.Shown.{holes_view}
use Rattle.param_choose.proofs.holes.+holes.Given as goal

-- numbers go on from the next one
abbrev pub invariant-push_all_holes-loop-part : goal.invariant-push_all_holes-loop-part
invariant-push_all_holes-loop-part l =
    (l.next + sizes (views (drop l.part-index l.parts)) ≡ l.number + sizes (views l.parts))
    × (holes_view l.fn.out.items ++ holes_among l.number l.inside (views l.parts) ≡ holes_view l.out.items ++ holes_among l.next l.inside (views (drop l.part-index l.parts)))
