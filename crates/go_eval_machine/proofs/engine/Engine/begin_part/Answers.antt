use Rattle.std.proofs.Common.{length, refl}
use Rattle.go_values.specs.Views.{views}
use Rattle.go_eval_machine.specs.Engines.{asks_part, asks}
use Rattle.go_eval_machine.proofs.Going.{goes_same, goes_given}
use Rattle.go_eval_machine.proofs.Asking.{known_part, begins_some, asks_none}
use Rattle.go_eval_machine.proofs.engine.Engine.begin_part.Goals as goal

pub returns-in-Some : goal.returns-in-Some
returns-in-Some c =
    let p = c.args.checked.now in
    let x = c.args.node.now in
    let y = c.in-Some.asked.now in
    let k = c.args.number in
    let old = c.args.self.now in
    goes_same p (asks_part p x k) (asks p y) old c.start.result c.start.new.self c.start.ensures
    (λ n s. begins_some x k c.deref.result.now c.deref.ensures.value p n s (views old.values.items) y c.in-Some.ensures)

pub returns-in-None : goal.returns-in-None
returns-in-None c =
    let p = c.args.checked.now in
    let old = c.args.self.now in
    goes_given p (asks_part p c.args.node.now c.args.number) old old tt (views old.values.items) (record { tasks = refl; machine = refl; depth = refl }) refl
    (λ n s. asks_none c.args.node.now c.args.number c.deref.result.now c.deref.ensures.value p n s (views old.values.items) c.in-None.ensures)

pub start-requires : goal.start-requires
start-requires c = known_part c.args.node.now c.args.number c.deref.result.now c.deref.ensures.value (length c.args.checked.now.types.shapes) c.in-Some.asked.now c.in-Some.ensures c.requires
