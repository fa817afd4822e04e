use Rattle.std.proofs.Common.{Result, Err, refl, ap, sym, ◌∙◌, subst, List}
use Rattle.go_base.specs.Gives.{Gives}
use Rattle.go_base.specs.declared.fault.FaultCode.TheVariants as code
use Rattle.go_types.specs.Tables.{rights_of}
use Rattle.go_typed.specs.Views.{sort_seen}
use Rattle.go_exprs_rules.specs.declared.fault.TypeFault.{TypeFault}
use Rattle.go_exprs_rules.specs.Faults.{least, judged}
use Rattle.go_exprs_rules.specs.Seen.{one_fault}
use Rattle.go_exprs_rules.specs.Sorts.{Stands}
use Rattle.go_exprs_rules.specs.Settling.{Part}
use Rattle.go_exprs_rules.specs.Calls.{panic_failing, no_results}
use Rattle.go_exprs_calls.specs.Shown.{shown}
use Rattle.go_exprs_calls.proofs.Counts.{unless_one}
use Rattle.go_exprs_calls.proofs.builtins.panic.Goals as goal

pub returns-in-Some-clause-exact : goal.returns-in-Some-clause-exact
returns-in-Some-clause-exact c =
    let t = c.args.types.now in
    let place = c.args.place in
    subst (λ (xs : List Part). Gives (sort_seen t) one_fault c.panic_of.result (judged (least (panic_failing (rights_of t) place.first place.last xs)) no_results)) (sym c.in-Some.ensures.some) c.panic_of.ensures.exact

pub returns-in-None-clause-exact : goal.returns-in-None-clause-exact
returns-in-None-clause-exact c =
    let t = c.args.types.now in
    let place = c.args.place in
    let F : List Part → Result Stands TypeFault = λ xs. judged (least (panic_failing (rights_of t) place.first place.last xs)) no_results in
    unless_one F (Err (record { code = code.Count; first = place.first; last = place.last })) refl (λ x y xs. refl) (shown t c.args.nodes.now) c.in-None.ensures.none ∙ ap Err (sym c.fault.ensures)
