use Rattle.std.proofs.Common.{◌≡◌, drop, slice_get}
use Rattle.go_tree.specs.Uses.{functions_among}
use Rattle.param_choose.proofs.template.function_at.Given as goal

abbrev pub invariant-loop-object : goal.invariant-loop-object
invariant-loop-object l = slice_get (functions_among l.objects) l.number ≡ slice_get (functions_among (drop l.object-index l.objects)) l.left
