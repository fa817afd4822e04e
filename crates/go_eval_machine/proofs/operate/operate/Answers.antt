use Rattle.std.proofs.Common.{◌≡◌, List, [], ◌∷◌, Option, take, drop, length, sym, ap, ◌∙◌, subst}
use Rattle.go_types.specs.Tables.{type_of, rights_of}
use Rattle.go_typed.specs.Views.{all_seen}
use Rattle.go_typed.specs.declared.node.TypedNode.{TypedNode}
use Rattle.go_meaning.specs.Values.{Value, nth}
use Rattle.go_meaning.specs.Computations.{one}
use Rattle.go_meaning.specs.Doings.{at}
use Rattle.go_meaning.specs.Operations as meant
use Rattle.go_eval_plans.specs.Views.{operation_view}
use Rattle.go_values.specs.declared.value.Value as code
use Rattle.go_values.specs.Views.{view, views}
use Rattle.go_eval_plans.specs.Machines.{outcome}
use Rattle.go_eval_plans.specs.Programs.{doings}
use Rattle.go_eval_plans.proofs.Public.{known_parts}
use Rattle.go_typed.specs.Views.{AllKnown}
use Rattle.go_eval_machine.specs.declared.task.What.TheVariants as what
use Rattle.go_eval_machine.specs.Tasks.{parts_of, planned}
use Rattle.go_eval_machine.specs.Engines.{works}
use Rattle.go_eval_machine.specs.Written.{IsWritten}
use Rattle.go_eval_machine.proofs.GoingAssignments.{goes_stored}
use Rattle.go_eval_machine.proofs.Operating.{operates_on}
use Rattle.go_eval_machine.proofs.operate.operate.Goals as goal

pub returns : goal.returns
returns c =
    let p = c.args.checked.now in
    let x = c.args.node.now in
    let b = c.args.base in
    let k = c.args.value in
    let o = c.args.operation in
    let m = c.args.engine.now in
    let m1 = c.take.new.self in
    let vs = views m.values.items in
    let M = c.store_result-answer.new.machine in
    let r = c.store_result-answer.result in
    let pair : List Value = nth (drop k vs) 0 ∷ nth (drop k vs) 1 ∷ [] in
    let us : views c.above.result.now ≡ drop b (take k vs) = c.above.ensures ∙ (ap (λ (ws : List code.Value). drop b (views ws)) c.deref-2.ensures.value ∙ ap (drop b) c.in_ok-take.ensures.values) in
    let given : List Value = view c.first_two-first.result.0 ∷ view c.first_two-first.result.1 ∷ [] in
    let first : view c.first_two-first.result.0 ≡ nth (drop k vs) 0 = c.first_two-first.ensures.first ∙ ap (λ (ws : List Value). nth ws 0) c.in_ok-take.ensures.taken in
    let second : view c.first_two-first.result.1 ≡ nth (drop k vs) 1 = c.first_two-first.ensures.second ∙ ap (λ (ws : List Value). nth ws 1) c.in_ok-take.ensures.taken in
    let two : given ≡ pair = ap (λ (u : Value). u ∷ view c.first_two-first.result.1 ∷ []) first ∙ ap (λ (u : Value). nth (drop k vs) 0 ∷ u ∷ []) second in
    goes_stored p (works p x b (what.Operate o k)) (λ n. one (meant.operate (planned p x o) pair) ((at (parts_of p n x) 0).store (drop b (take k vs)))) m m1 c.cut.new.self M (take b (take k vs)) r
    c.in_ok-take.ensures.kept c.cut.ensures.kept (c.cut.ensures.values ∙ ap (take b) c.in_ok-take.ensures.values) c.store_result-answer.ensures.turns
    (λ n. subst (λ (zs : List Value). IsWritten (outcome (one (meant.operate (planned p x o) zs) ((at (parts_of p n x) 0).store (drop b (take k vs)))) m.depth m1.machine) r M) two
    (subst (λ (zs : List Value). IsWritten (outcome (one (meant.operate (planned p x o) given) ((at (parts_of p n x) 0).store zs)) m.depth m1.machine) r M) us
    (subst (λ (ys : List (Option TypedNode)). IsWritten (outcome (one (meant.operate (operation_view (rights_of p.types) (type_of p.types.shapes) (all_seen p.types ys) o) given) ((at (doings p n ys) 0).store (views c.above.result.now))) m.depth m1.machine) r M) c.deref.ensures.value (c.store_result-answer.ensures.is n m.depth))))
    (λ n s. operates_on p x b o m k n s)

pub store_result-answer-requires-clause-parts : goal.store_result-answer-requires-clause-parts
store_result-answer-requires-clause-parts c = subst (AllKnown (length c.args.checked.now.types.shapes)) (sym c.deref.ensures.value) (known_parts (length c.args.checked.now.types.shapes) c.args.node.now c.requires.node)
