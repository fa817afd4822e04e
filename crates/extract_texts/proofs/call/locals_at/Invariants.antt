use Rattle.std.proofs.Common.{◌≡◌, ◌++◌, map, drop}
use Rattle.param_choose.specs.Shown.{variable_view}
use Rattle.extract_texts.specs.Shown.{locals_by}
use Rattle.extract_texts.proofs.call.locals_at.Given as goal

abbrev pub invariant-loop-variable : goal.invariant-loop-variable
invariant-loop-variable l =
    l.locals.items ++ locals_by l.template l.others (map variable_view (drop l.variable-index l.variables)) ≡ locals_by l.template l.others (map variable_view l.variables)
