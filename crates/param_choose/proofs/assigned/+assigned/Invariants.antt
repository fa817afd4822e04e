use Rattle.std.proofs.Common.{◌≡◌, ◌++◌, drop}
use Rattle.go_typed.specs.Views.{views}
use Rattle.param_choose.specs.Locals.{assigned_among}
use Rattle.param_choose.specs.Shown.{array_in}
use Rattle.param_choose.proofs.assigned.+assigned.Given as goal

abbrev pub invariant-push_all_assigned-loop-part : goal.invariant-push_all_assigned-loop-part
invariant-push_all_assigned-loop-part l =
    l.fn.out.items ++ assigned_among (array_in l.types) (views l.parts) ≡ l.out.items ++ assigned_among (array_in l.types) (views (drop l.part-index l.parts))
