use Rattle.std.proofs.Common.{◌≡◌, ◌++◌, drop}
use Rattle.go_typed.specs.Views.{views}
use Rattle.param_choose.specs.Locals.{roots}
use Rattle.param_choose.specs.Shown.{array_in}
use Rattle.param_choose.proofs.assigned.push_roots.Given as goal

abbrev pub invariant-loop-part : goal.invariant-loop-part
invariant-loop-part l =
    l.fn.out.items ++ roots (array_in l.types) l.count (views l.parts) ≡ l.out.items ++ roots (array_in l.types) l.left (views (drop l.part-index l.parts))
