use Rattle.std.proofs.Common.{List, [], ◌∷◌, refl, subst}
use Rattle.go_types.specs.Tables.{Table, type_of, rights_of}
use Rattle.go_typed.specs.Views.{all_seen}
use Rattle.go_meaning.specs.Values as meant
use Rattle.go_meaning.specs.Operations.{perform}
use Rattle.go_eval_plans.specs.Views.{operation_view}
use Rattle.go_values.specs.Views.{view, views}
use Rattle.go_values.specs.Worlds.{world_view}
use Rattle.go_eval_operations.specs.Performing.{IsPerformed}
use Rattle.go_eval_machine.proofs.operate.operated.Goals as goal

pub returns-in-Some : goal.returns-in-Some
returns-in-Some c =
    let p = c.args.checked.now in
    let f = type_of p.types.shapes in
    let ps = all_seen p.types c.args.parts.now in
    let us : List meant.Value = view c.args.first ∷ view c.args.second ∷ [] in
    let w = world_view c.args.world.now in
    c.done.ensures (perform (operation_view (rights_of p.types) f ps c.args.operation) us w) w (c.in-Some.ensures (rights_of p.types) f ps us refl refl w)

pub returns-in_ok-operands-in-None : goal.returns-in_ok-operands-in-None
returns-in_ok-operands-in-None c =
    let p = c.args.checked.now in
    let w = world_view c.args.world.now in
    let w1 = world_view c.perform.new.world in
    let r = c.perform.result in
    let xs = c.args.parts.now in
    subst (λ (us : List meant.Value). IsPerformed r (perform (operation_view (rights_of p.types) (type_of p.types.shapes) (all_seen p.types xs) c.args.operation) us w) w w1) c.in_ok-operands-in-None.ensures
    (subst (λ (t : Table). IsPerformed r (perform (operation_view (rights_of t) (type_of t.shapes) (all_seen t xs) c.args.operation) (views c.in_ok-operands-in-None.operands.items) w) w w1) c.types.ensures.types c.perform.ensures)
