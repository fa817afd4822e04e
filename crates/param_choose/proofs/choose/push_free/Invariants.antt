use Rattle.std.proofs.Common.{◌≡◌, ◌++◌, map, drop}
use Rattle.param_choose.specs.Plans.{free_parameter, param_view}
use Rattle.param_choose.specs.Shown.{variable_view}
use Rattle.param_choose.proofs.choose.push_free.Given as goal

abbrev pub invariant-loop-variable : goal.invariant-loop-variable
invariant-loop-variable l = map param_view l.fn.out.items ++ map free_parameter (map variable_view l.free) ≡ map param_view l.out.items ++ map free_parameter (map variable_view (drop l.variable-index l.free))
