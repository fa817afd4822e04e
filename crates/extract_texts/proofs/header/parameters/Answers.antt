use Rattle.std.proofs.Common.{◌<◌, List, length, map, sym, subst}
use Rattle.std.specs.List.{AllByRecursion}
use Rattle.param_choose.specs.declared.choice.HoleParameter.{HoleParameter}
use Rattle.param_choose.specs.declared.variables.Variable.{Variable}
use Rattle.param_choose.specs.Shown.{variable_view}
use Rattle.escape_check.specs.Types.{variable_types}
use Rattle.extract_texts.specs.Shown.{types_shown}
use Rattle.extract_texts.proofs.Rows.{known_free, known_holes}
use Rattle.extract_texts.proofs.header.parameters.Goals as goal

pub push_free-requires : goal.push_free-requires
push_free-requires c =
    let p = c.args.checked.now in
    subst (λ (vs : List Variable). AllByRecursion (λ t. t < length p.types.shapes) (variable_types (map variable_view vs))) (sym c.deref.ensures.value) (known_free p c.args.choice.now c.requires)

pub push_holes-requires : goal.push_holes-requires
push_holes-requires c =
    let p = c.args.checked.now in
    subst (λ (hs : List HoleParameter). AllByRecursion (λ t. t < length p.types.shapes) (types_shown hs)) (sym c.deref-2.ensures.value) (known_holes p c.args.choice.now c.requires)
