use Rattle.std.proofs.Common.{◌≡◌, ℕ, List, [], ◌∷◌, Option, take, drop, length, sym, ap, ◌∙◌, subst}
use Rattle.std.specs.Prelude.{pos}
use Rattle.std.proofs.lemmas.Result.{err_from_is_err_and}
use Rattle.go_types.specs.Tables.{type_of, rights_of}
use Rattle.go_typed.specs.Views.{AllKnown, all_seen}
use Rattle.go_typed.specs.declared.node.TypedNode.{TypedNode}
use Rattle.go_meaning.specs.Values.{Value, Whole}
use Rattle.go_meaning.specs.Computations.{Comp, Outcome, give, one}
use Rattle.go_meaning.specs.Doings.{at}
use Rattle.go_meaning.specs.Operations as meant
use Rattle.go_eval_plans.specs.Views.{operation_view}
use Rattle.go_values.proofs.Public.{view_whole}
use Rattle.go_values.specs.declared.value.Value as code
use Rattle.go_values.specs.Views.{view, views}
use Rattle.go_eval_plans.specs.Machines.{outcome, Reads}
use Rattle.go_eval_plans.specs.Programs.{doings}
use Rattle.go_eval_plans.proofs.Public.{known_parts}
use Rattle.go_eval_machine.specs.declared.engine.Engine.{Engine}
use Rattle.go_eval_machine.specs.declared.task.What.TheVariants as what
use Rattle.go_eval_machine.specs.Tasks.{parts_of, planned, loaded_at}
use Rattle.go_eval_machine.specs.Engines.{IsKept, works}
use Rattle.go_eval_machine.specs.Written.{IsWritten}
use Rattle.go_eval_machine.proofs.GoingAssignments.{goes_stored, kept_itself}
use Rattle.go_eval_machine.proofs.Operating.{given_read, not_read, step_reads}
use Rattle.go_eval_machine.proofs.operate.step.Goals as goal

pub returns : goal.returns
returns c =
    let p = c.args.checked.now in
    let x = c.args.node.now in
    let b = c.args.base in
    let o = c.args.operation in
    let m = c.args.engine.now in
    let m1 = c.loaded.new.engine in
    let vs = views m.values.items in
    let M = c.store_result-answer.new.machine in
    let r = c.store_result-answer.result in
    let v = view c.in_ok-read.read in
    let u = Whole (pos 1) in
    let same : m1 ≡ m = c.in_ok-read.ensures.0 in
    let front : views m1.values.items ≡ vs = ap (λ (q : Engine). views q.values.items) same in
    let us : views c.above.result.now ≡ drop b vs = c.above.ensures ∙ (ap (λ (ws : List code.Value). drop b (views ws)) c.deref-2.ensures.value ∙ ap (drop b) front) in
    let given : List Value = v ∷ view (code.Whole (pos 1)) ∷ [] in
    let two : given ≡ v ∷ u ∷ [] = ap (λ (w : Value). v ∷ w ∷ []) (view_whole (pos 1)) in
    goes_stored p (works p x b (what.Step o)) (λ n. loaded_at (planned p x o) (at (parts_of p n x) 0) (give (u ∷ [])) (drop b vs)) m m1 c.cut.new.self M (take b vs) r
    (subst (IsKept m) (sym same) (kept_itself m)) c.cut.ensures.kept (c.cut.ensures.values ∙ ap (take b) front) c.store_result-answer.ensures.turns
    (λ n. subst (λ (oc : Outcome). IsWritten oc r M)
    (sym (given_read (planned p x o) (at (parts_of p n x) 0) (drop b vs) u v m.depth m1.machine (subst (λ (q : Engine). Reads ((at (parts_of p n x) 0).load (drop b vs)) m.depth q.machine v) (sym same) (c.in_ok-read.ensures.1 n))))
    (subst (λ (zs : List Value). IsWritten (outcome (one (meant.operate (planned p x o) zs) ((at (parts_of p n x) 0).store (drop b vs))) m.depth m1.machine) r M) two
    (subst (λ (zs : List Value). IsWritten (outcome (one (meant.operate (planned p x o) given) ((at (parts_of p n x) 0).store zs)) m.depth m1.machine) r M) us
    (subst (λ (ys : List (Option TypedNode)). IsWritten (outcome (one (meant.operate (operation_view (rights_of p.types) (type_of p.types.shapes) (all_seen p.types ys) o) given) ((at (doings p n ys) 0).store (views c.above.result.now))) m.depth m1.machine) r M) c.deref.ensures.value (c.store_result-answer.ensures.is n m.depth)))))
    (λ n s. step_reads p x b o m n s)

pub store_result-answer-requires-clause-parts : goal.store_result-answer-requires-clause-parts
store_result-answer-requires-clause-parts c = subst (AllKnown (length c.args.checked.now.types.shapes)) (sym c.deref.ensures.value) (known_parts (length c.args.checked.now.types.shapes) c.args.node.now c.requires.node)

pub returns-in_err-read : goal.returns-in_err-read
returns-in_err-read c =
    let p = c.args.checked.now in
    let x = c.args.node.now in
    let b = c.args.base in
    let o = c.args.operation in
    let m = c.args.engine.now in
    let y : ℕ → Comp = λ n. give (Whole (pos 1) ∷ []) in
    let q = err_from_is_err_and c.from_residual.result c.from_residual.ensures.1 in
    let e = c.in_err-read.field-0.0 in
    rw (q.1, q.2) (not_read p (works p x b (what.Step o)) x o b y m c.loaded.new.engine (step_reads p x b o m) e c.in_err-read.ensures.0 c.in_err-read.ensures.1.0 c.in_err-read.ensures.1.1)
