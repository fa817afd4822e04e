use Rattle.std.proofs.Common.{◌≡◌, ◌++◌, map, drop}
use Rattle.param_choose.specs.Shown.{variable_view}
use Rattle.escape_check.specs.Types.{variable_types}
use Rattle.escape_check.proofs.sites.push_types.Given as goal

abbrev pub invariant-loop-variable : goal.invariant-loop-variable
invariant-loop-variable l =
    l.types.items ++ variable_types (map variable_view (drop l.variable-index l.variables)) ≡ l.fn.types.items ++ variable_types (map variable_view l.variables)
