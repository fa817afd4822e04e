use Rattle.std.proofs.Common.{[], ◌∷◌, ◌++◌, take, refl, subst, Option, Some, None, Ok}
use Rattle.std.proofs.lemmas.Result.{err_from_is_err_and}
use Rattle.go_meaning.specs.Operations.{perform}
use Rattle.go_values.specs.declared.value.Value.{Value}
use Rattle.go_values.specs.Views.{view, views}
use Rattle.go_values.specs.Worlds.{world_view}
use Rattle.go_eval_operations.specs.Performing.{IsPerformed}
use Rattle.go_eval_machine.specs.declared.task.What.TheVariants as what
use Rattle.go_eval_machine.specs.Tasks.{deed_view}
use Rattle.go_eval_machine.specs.Engines.{Work, skips, works}
use Rattle.go_eval_machine.proofs.Going.{goes_worlded, goes_given}
use Rattle.go_eval_machine.proofs.Performed.{deed_gives, deed_does, deed_stops}
use Rattle.go_eval_machine.proofs.engine.Engine.perform_taken.Goals as goal

pub returns-in_ok-give-in-Some : goal.returns-in_ok-give-in-Some
returns-in_ok-give-in-Some c =
    let p = c.args.checked.now in
    let x = c.args.node.now in
    let b = c.args.base in
    let old = c.args.self.now in
    let vs = views old.values.items in
    let m1 = c.take.new.self in
    let m = record m1 { machine = record m1.machine { world = c.perform_deed.new.world } } in
    let v = view c.in-Some.value in
    let one : Work = λ n s us. s.go (us ++ v ∷ []) in
    let done : IsPerformed (Ok (Some c.in-Some.value)) (perform (deed_view p x c.args.deed) (views c.in_ok-operands.operands.items) (world_view m1.machine.world)) (world_view m1.machine.world) (world_view m.machine.world) =
    subst (λ (o : Option Value). IsPerformed (Ok o) (perform (deed_view p x c.args.deed) (views c.in_ok-operands.operands.items) (world_view m1.machine.world)) (world_view m1.machine.world) (world_view m.machine.world)) c.in-Some.is c.in_ok-value.ensures in
    goes_worlded p (works p x b (what.Perform c.args.deed)) one old m1 m (Ok (tt {0})) c.give.new.self (take b vs) c.in_ok-operands.ensures.kept c.in_ok-operands.ensures.values refl refl refl refl refl
    (goes_given p one m c.give.new.self (tt {0}) (views m.values.items ++ v ∷ []) c.in_ok-give-in-Some.ensures.kept c.in_ok-give-in-Some.ensures.values (λ n s d f u t. refl))
    (deed_gives p x b c.args.deed old m1 m v c.in_ok-operands.ensures.kept (views c.in_ok-operands.operands.items) c.in_ok-operands.ensures.taken done)

pub returns-in-None : goal.returns-in-None
returns-in-None c =
    let p = c.args.checked.now in
    let x = c.args.node.now in
    let b = c.args.base in
    let old = c.args.self.now in
    let vs = views old.values.items in
    let m1 = c.take.new.self in
    let m = record m1 { machine = record m1.machine { world = c.perform_deed.new.world } } in
    let done : IsPerformed (Ok None) (perform (deed_view p x c.args.deed) (views c.in_ok-operands.operands.items) (world_view m1.machine.world)) (world_view m1.machine.world) (world_view m.machine.world) =
    subst (λ (o : Option Value). IsPerformed (Ok o) (perform (deed_view p x c.args.deed) (views c.in_ok-operands.operands.items) (world_view m1.machine.world)) (world_view m1.machine.world) (world_view m.machine.world)) c.in-None.is c.in_ok-value.ensures in
    goes_worlded p (works p x b (what.Perform c.args.deed)) skips old m1 m (Ok (tt {0})) m (take b vs) c.in_ok-operands.ensures.kept c.in_ok-operands.ensures.values refl refl refl refl refl
    (goes_given p skips m m (tt {0}) (views m.values.items) (record { tasks = refl; machine = refl; depth = refl }) refl (λ n s d f u t. refl))
    (deed_does p x b c.args.deed old m1 m c.in_ok-operands.ensures.kept (views c.in_ok-operands.operands.items) c.in_ok-operands.ensures.taken done)

pub returns-in_err-value : goal.returns-in_err-value
returns-in_err-value c =
    let p = c.args.checked.now in
    let x = c.args.node.now in
    let old = c.args.self.now in
    let m1 = c.take.new.self in
    let m = record m1 { machine = record m1.machine { world = c.perform_deed.new.world } } in
    let q = err_from_is_err_and c.from_residual-in_err-value.result c.from_residual-in_err-value.ensures.1 in
    rw q.1 (deed_stops p x c.args.base c.args.deed old m1 m c.in_err-value.field-0.0 q.0 c.in_ok-operands.ensures.kept c.in_ok-operands.ensures.values refl refl refl refl refl (views c.in_ok-operands.operands.items) c.in_ok-operands.ensures.taken c.in_err-value.ensures q.2)
