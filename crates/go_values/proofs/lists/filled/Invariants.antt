use Rattle.std.proofs.Common.{◌≡◌, ◌++◌, replicate}
use Rattle.go_values.specs.Views.{view, views}
use Rattle.go_values.proofs.lists.filled.Given as goal

abbrev pub invariant-loop-i : goal.invariant-loop-i
invariant-loop-i l = views l.filled.items ≡ views l.fn.values.items ++ replicate l.i (view l.filler)
