use Rattle.std.proofs.Common.{◌≡◌, ◌++◌, nat_eq, map, drop}
use Rattle.std.specs.HashSet as set
use Rattle.param_choose.specs.Locals.{only}
use Rattle.param_choose.specs.Shown.{variable_view}
use Rattle.param_choose.proofs.assigned.these_among.Given as goal

abbrev pub invariant-loop-variable : goal.invariant-loop-variable
invariant-loop-variable l =
    map variable_view l.out.items ++ only (set.contains nat_eq l.these) (map variable_view (drop l.variable-index l.variables))
    ≡ only (set.contains nat_eq l.these) (map variable_view l.variables)
