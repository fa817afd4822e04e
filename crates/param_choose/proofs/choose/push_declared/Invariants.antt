use Rattle.std.proofs.Common.{◌≡◌, ◌++◌, map, drop}
use Rattle.param_choose.specs.Plans.{declared_result, result_view}
use Rattle.param_choose.specs.Shown.{variable_view}
use Rattle.param_choose.proofs.choose.push_declared.Given as goal

abbrev pub invariant-loop-variable : goal.invariant-loop-variable
invariant-loop-variable l = map result_view l.fn.out.items ++ map declared_result (map variable_view l.declared) ≡ map result_view l.out.items ++ map declared_result (map variable_view (drop l.variable-index l.declared))
