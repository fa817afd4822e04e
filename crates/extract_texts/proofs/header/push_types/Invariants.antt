use Rattle.std.proofs.Common.{◌≡◌, ◌<◌, ◌++◌, length, map, drop}
use Rattle.std.specs.List.{AllByRecursion}
use Rattle.param_choose.specs.Shown.{variable_view}
use Rattle.escape_check.specs.Types.{variable_types}
use Rattle.extract_texts.specs.Shown.{written}
use Rattle.extract_texts.proofs.header.push_types.Given as goal

abbrev pub invariant-loop-variable : goal.invariant-loop-variable
invariant-loop-variable l = record {
  known : AllByRecursion (λ t. t < length l.checked.types.shapes) (variable_types (map variable_view (drop l.variable-index l.variables)));
  texts : l.types.items ++ map (written l.checked) (variable_types (map variable_view (drop l.variable-index l.variables)))
      ≡ l.fn.types.items ++ map (written l.checked) (variable_types (map variable_view l.variables));
}
