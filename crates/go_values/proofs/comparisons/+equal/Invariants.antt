use Rattle.std.proofs.Common.{◌≡◌, drop}
use Rattle.go_meaning.specs.Values.{same_values, valued}
use Rattle.go_values.specs.Views.{views}
use Rattle.go_values.proofs.comparisons.+equal.Given as goal

abbrev pub invariant-all_equal-loop-i : goal.invariant-all_equal-loop-i
invariant-all_equal-loop-i l =
    same_values (valued (views (drop l.i l.a))) (valued (views (drop l.i l.b))) ≡ same_values (valued (views l.a)) (valued (views l.b))
