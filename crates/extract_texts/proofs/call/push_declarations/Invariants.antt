use Rattle.std.proofs.Common.{◌≡◌, ◌<◌, ◌++◌, length, map, drop}
use Rattle.std.specs.List.{AllByRecursion}
use Rattle.param_choose.specs.Shown.{variable_view}
use Rattle.escape_check.specs.Shown.{member_view}
use Rattle.escape_check.specs.Types.{variable_types}
use Rattle.extract_texts.specs.Shown.{declarations}
use Rattle.extract_texts.proofs.call.push_declarations.Given as goal

abbrev pub invariant-loop-variable : goal.invariant-loop-variable
invariant-loop-variable l = record {
  known : AllByRecursion (λ t. t < length l.checked.types.shapes) (variable_types (map variable_view (drop l.variable-index l.variables)));
  text : l.text.items ++ declarations l.checked (member_view l.member) (map variable_view (drop l.variable-index l.variables))
      ≡ l.fn.text.items ++ declarations l.checked (member_view l.member) (map variable_view l.variables);
}
