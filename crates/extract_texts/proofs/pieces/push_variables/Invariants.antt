use Rattle.std.proofs.Common.{◌≡◌, ◌++◌, drop, map}
use Rattle.param_choose.specs.Shown.{variable_view}
use Rattle.escape_check.specs.Places.{sources_in}
use Rattle.escape_check.specs.Shown.{member_view}
use Rattle.extract_texts.specs.Texts.{variable_names}
use Rattle.extract_texts.proofs.pieces.push_variables.Given as goal

abbrev pub invariant-loop-variable : goal.invariant-loop-variable
invariant-loop-variable l =
    l.out.items ++ variable_names (sources_in l.checked) (member_view l.member) (map variable_view (drop l.variable-index l.variables))
    ≡ l.fn.out.items ++ variable_names (sources_in l.checked) (member_view l.member) (map variable_view l.variables)
