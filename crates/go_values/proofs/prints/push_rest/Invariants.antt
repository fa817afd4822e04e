use Rattle.std.proofs.Common.{◌≡◌, ◌++◌, drop}
use Rattle.go_values.specs.Views.{views}
use Rattle.go_values.specs.Lines.{rest_of_line}
use Rattle.go_values.proofs.prints.push_rest.Given as goal

abbrev pub invariant-loop-value : goal.invariant-loop-value
invariant-loop-value l = l.out.items ++ rest_of_line (views (drop l.value-index l.values)) ≡ l.fn.out.items ++ rest_of_line (views l.values)
