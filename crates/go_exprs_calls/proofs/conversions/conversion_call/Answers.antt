use Rattle.std.proofs.Common.{Result, Err, refl, ap, sym, ◌∙◌, subst, List}
use Rattle.go_base.specs.Gives.{Gives}
use Rattle.go_base.specs.declared.fault.FaultCode.TheVariants as code
use Rattle.go_types.specs.Tables.{type_of, rights_of}
use Rattle.go_typed.specs.Views.{sort_seen}
use Rattle.go_exprs_rules.specs.declared.fault.TypeFault.{TypeFault}
use Rattle.go_exprs_rules.specs.Faults.{least, judged, refusal_of}
use Rattle.go_exprs_rules.specs.Sorts.{Stands}
use Rattle.go_exprs_rules.specs.Settling.{Part}
use Rattle.go_exprs_rules.specs.Calls.{one_conversion, converted_sort}
use Rattle.go_exprs_calls.specs.Shown.{shown}
use Rattle.go_exprs_calls.proofs.Counts.{unless_one}
use Rattle.go_exprs_calls.proofs.conversions.conversion_call.Goals as goal

pub returns-in-Some-clause-exact : goal.returns-in-Some-clause-exact
returns-in-Some-clause-exact c =
    let t = c.args.types.now in
    let place = c.args.place in
    let to = type_of t.shapes c.args.to in
    subst (λ (xs : List Part). Gives (sort_seen t) refusal_of c.converted_operand.result (judged (least (one_conversion (rights_of t) place.first place.last to xs)) (converted_sort (rights_of t) to xs))) (sym c.in-Some.ensures.some) c.converted_operand.ensures.exact

pub returns-in-None-clause-exact : goal.returns-in-None-clause-exact
returns-in-None-clause-exact c =
    let t = c.args.types.now in
    let place = c.args.place in
    let to = type_of t.shapes c.args.to in
    let F : List Part → Result Stands TypeFault = λ xs. judged (least (one_conversion (rights_of t) place.first place.last to xs)) (converted_sort (rights_of t) to xs) in
    unless_one F (Err (record { code = code.Count; first = place.first; last = place.last })) refl (λ x y xs. refl) (shown t c.args.nodes.now) c.in-None.ensures.none ∙ ap Err (sym c.fault.ensures)
