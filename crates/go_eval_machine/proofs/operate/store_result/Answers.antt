use Rattle.std.proofs.Common.{List, [], ◌∷◌, refl, sym, subst}
use Rattle.std.proofs.lemmas.Result.{err_from_is_err_and}
use Rattle.go_types.specs.Tables.{type_of, rights_of}
use Rattle.go_typed.specs.Views.{all_seen}
use Rattle.go_meaning.specs.Values as meant
use Rattle.go_meaning.specs.Computations.{Outcome}
use Rattle.go_meaning.specs.Doings.{at}
use Rattle.go_meaning.specs.Operations.{perform}
use Rattle.go_eval_plans.specs.Views.{operation_view}
use Rattle.go_values.specs.Views.{view, views}
use Rattle.go_values.specs.Worlds.{world_view}
use Rattle.go_eval_plans.specs.Machines.{outcome}
use Rattle.go_eval_plans.specs.Programs.{doings}
use Rattle.go_eval_machine.specs.Written.{IsWritten}
use Rattle.go_eval_machine.proofs.Operating.{operated, performed, not_operated}
use Rattle.go_eval_machine.specs.Loaded.{given_values}
use Rattle.go_eval_machine.proofs.operate.store_result.Goals as goal

pub returns-clause-is : goal.returns-clause-is
returns-clause-is c = λ n d.
    let p = c.args.checked.now in
    let xs = c.args.parts.now in
    let o = operation_view (rights_of p.types) (type_of p.types.shapes) (all_seen p.types xs) c.args.operation in
    let us : List meant.Value = view c.args.first ∷ view c.args.second ∷ [] in
    let X = at (doings p n xs) 0 in
    let m = c.args.machine.now in
    let m1 = record m { world = c.operated.new.world } in
    let vs = given_values c.in_ok-given.given in
    subst (λ (oc : Outcome). IsWritten oc c.store.result c.store.new.machine) (sym (operated o us (X.store (views c.args.operands.now)) d m m1 vs (performed c.in_ok-given.given (perform o us (world_view m.world)) (world_view m.world) (world_view m1.world) c.in_ok-given.ensures) refl refl))
    (subst (λ (v : meant.Value). IsWritten (outcome (X.store (views c.args.operands.now) v) d m1) c.store.result c.store.new.machine) c.or_nil-value.ensures (c.store.ensures.is n d))

pub returns-in_err-given-clause-is : goal.returns-in_err-given-clause-is
returns-in_err-given-clause-is c = λ n d.
    let p = c.args.checked.now in
    let xs = c.args.parts.now in
    let o = operation_view (rights_of p.types) (type_of p.types.shapes) (all_seen p.types xs) c.args.operation in
    let m = c.args.machine.now in
    let m1 = record m { world = c.operated.new.world } in
    let us : List meant.Value = view c.args.first ∷ view c.args.second ∷ [] in
    let q = err_from_is_err_and c.from_residual.result c.from_residual.ensures.1 in
    rw q.1 (not_operated o us ((at (doings p n xs) 0).store (views c.args.operands.now)) d m m1 c.in_err-given.field-0.0 q.0 c.in_err-given.ensures refl refl q.2)
