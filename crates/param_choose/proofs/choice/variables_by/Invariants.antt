use Rattle.std.proofs.Common.{◌≡◌, ◌++◌, map, drop}
use Rattle.param_choose.specs.Marks.{variables_by}
use Rattle.param_choose.specs.Shown.{variable_view}
use Rattle.param_choose.proofs.choice.variables_by.Given as goal

abbrev pub invariant-loop-local : goal.invariant-loop-local
invariant-loop-local l =
    (variables_by l.func.locals l.marks 0 l.locals ≡ map variable_view l.out.items ++ variables_by l.func.locals l.marks l.index (drop l.local-index l.locals))
    × (l.index ≡ l.local-index)
