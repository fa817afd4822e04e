use Rattle.std.proofs.Common.{◌<◌, List, length, map, sym, subst}
use Rattle.std.specs.List.{AllByRecursion}
use Rattle.param_choose.specs.declared.variables.Variable.{Variable}
use Rattle.param_choose.specs.Shown.{variable_view}
use Rattle.escape_check.specs.Types.{variable_types}
use Rattle.extract_texts.proofs.Rows.{known_assigned, known_declared}
use Rattle.extract_texts.proofs.header.results.Goals as goal

pub push_types-requires : goal.push_types-requires
push_types-requires c =
    let p = c.args.checked.now in
    subst (λ (vs : List Variable). AllByRecursion (λ t. t < length p.types.shapes) (variable_types (map variable_view vs))) (sym c.deref.ensures.value) (known_assigned p c.args.choice.now c.requires)

pub push_types-requires-2 : goal.push_types-requires-2
push_types-requires-2 c =
    let p = c.args.checked.now in
    subst (λ (vs : List Variable). AllByRecursion (λ t. t < length p.types.shapes) (variable_types (map variable_view vs))) (sym c.deref-2.ensures.value) (known_declared p c.args.choice.now c.requires)
