use Rattle.std.proofs.Common.{◌≡◌, true, ap, sym, subst, ◌∙◌}
use Rattle.std.specs.Option.{option_map}
use Rattle.std.proofs.lemmas.Result.{IfOk-weaker}
use Rattle.go_types.specs.Tables.{rights_of}
use Rattle.go_typed.specs.Views.{seen}
use Rattle.go_exprs_rules.specs.TypeNodes.{part_type}
use Rattle.go_package_defs.specs.Verdicts.{are_judged, assigned_if, assigned_as}
use Rattle.go_declarations.specs.Assigned.{ShowsAssigned}
use Rattle.go_declarations.specs.Views.{specification_view}
use Rattle.go_declarations.proofs.judging.assigned_of.Goals as goal

pub returns-clause-shows : goal.returns-clause-shows
returns-clause-shows c fs e =
    let t = c.args.types.now in
    let d = specification_view c.args.specification.now in
    let of = option_map (λ x. seen t x.now) c.args.of in
    let value = option_map (λ x. seen t x.now) c.args.value in
    let judged : are_judged fs of value ≡ true = sym (c.are_judged.ensures fs e) ∙ c.if-not-are_judged.false in
    IfOk-weaker c.assigned_as.result _ _ (λ a h. subst (ShowsAssigned t a) (sym (ap (λ b. assigned_if b (assigned_as d.entity (rights_of t) d c.args.column (part_type of) value)) judged)) h)
    (c.assigned_as.ensures.shows d (sym c.is_alone.ensures))
