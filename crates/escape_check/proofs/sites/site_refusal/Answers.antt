use Rattle.std.proofs.Common.{◌∙◌, ◌<◌, List, length, map, sym, ap, subst}
use Rattle.std.specs.List.{AllByRecursion}
use Rattle.go_scopes.specs.Resolve.{units_of}
use Rattle.go_scopes_lookup.specs.Views.{units_view}
use Rattle.param_choose.specs.declared.variables.Variable.{Variable}
use Rattle.param_choose.specs.Handed.{choice_shown}
use Rattle.param_choose.specs.Shown.{variable_view}
use Rattle.escape_check.specs.Types.{variable_types}
use Rattle.escape_check.proofs.AtSites.{few_units}
use Rattle.escape_check.proofs.KnownTypes.{declared_known}
use Rattle.escape_check.proofs.sites.site_refusal.Goals as goal

pub hidden_refusal-requires-clause-types : goal.hidden_refusal-requires-clause-types
hidden_refusal-requires-clause-types c =
    let p = c.args.checked.now in
    subst (λ (vs : List Variable). AllByRecursion (λ t. t < length p.types.shapes) (variable_types (map variable_view vs))) (sym c.deref-7.ensures.value)
    (declared_known p (choice_shown c.args.choice.now) c.requires.types)

pub looked_up-requires-clause-few : goal.looked_up-requires-clause-few
looked_up-requires-clause-few c =
    few_units c.deref-9.result.now c.args.checked.now.files (ap units_view c.deref-9.ensures.value ∙ c.in_ok-units.ensures.units ∙ ap units_of c.files.ensures) c.requires.few
