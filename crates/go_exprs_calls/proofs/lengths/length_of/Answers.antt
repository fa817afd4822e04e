use Rattle.std.proofs.Common.{Result, Err, refl, ap, sym, ◌∙◌, subst, List}
use Rattle.go_base.specs.Gives.{Gives}
use Rattle.go_base.specs.declared.fault.FaultCode.TheVariants as code
use Rattle.go_types.specs.Tables.{rights_of}
use Rattle.go_typed.specs.Views.{sort_seen}
use Rattle.go_exprs_rules.specs.declared.fault.TypeFault.{TypeFault}
use Rattle.go_exprs_rules.specs.Faults.{least, judged, refusal_of}
use Rattle.go_exprs_rules.specs.Sorts.{Stands}
use Rattle.go_exprs_rules.specs.Settling.{Part}
use Rattle.go_exprs_rules.specs.Calls.{length_failing, length_sort}
use Rattle.go_exprs_calls.specs.Shown.{shown}
use Rattle.go_exprs_calls.proofs.Counts.{unless_one}
use Rattle.go_exprs_calls.proofs.lengths.length_of.Goals as goal

pub returns-in-Some-clause-exact : goal.returns-in-Some-clause-exact
returns-in-Some-clause-exact c =
    let t = c.args.types.now in
    let place = c.args.place in
    subst (λ (xs : List Part). Gives (sort_seen t) refusal_of c.length_of_operand.result (judged (least (length_failing (rights_of t) place.first place.last c.args.texts xs)) (length_sort (rights_of t) xs))) (sym c.in-Some.ensures.some) c.length_of_operand.ensures.exact

pub returns-in-None-clause-exact : goal.returns-in-None-clause-exact
returns-in-None-clause-exact c =
    let t = c.args.types.now in
    let place = c.args.place in
    let F : List Part → Result Stands TypeFault = λ xs. judged (least (length_failing (rights_of t) place.first place.last c.args.texts xs)) (length_sort (rights_of t) xs) in
    unless_one F (Err (record { code = code.Count; first = place.first; last = place.last })) refl (λ x y xs. refl) (shown t c.args.nodes.now) c.in-None.ensures.none ∙ ap Err (sym c.fault.ensures)
