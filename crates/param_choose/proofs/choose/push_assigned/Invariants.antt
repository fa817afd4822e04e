use Rattle.std.proofs.Common.{◌≡◌, ◌++◌, map, drop}
use Rattle.param_choose.specs.Plans.{assigned_result, result_view}
use Rattle.param_choose.specs.Shown.{variable_view}
use Rattle.param_choose.proofs.choose.push_assigned.Given as goal

abbrev pub invariant-loop-variable : goal.invariant-loop-variable
invariant-loop-variable l = map result_view l.fn.out.items ++ map assigned_result (map variable_view l.assigned) ≡ map result_view l.out.items ++ map assigned_result (map variable_view (drop l.variable-index l.assigned))
