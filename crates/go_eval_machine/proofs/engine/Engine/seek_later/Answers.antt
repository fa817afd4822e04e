use Rattle.std.proofs.Common.{length}
use Rattle.go_values.specs.Views.{views}
use Rattle.go_values.specs.Worlds.{world_view}
use Rattle.go_eval_machine.specs.declared.task.What.TheVariants as what
use Rattle.go_eval_machine.specs.Engines.{seeks_part}
use Rattle.go_eval_machine.proofs.Going.{goes_laid, goes_undecided}
use Rattle.go_eval_machine.proofs.Asking.{known_part, seeks_some, seeks_none}
use Rattle.go_eval_machine.proofs.engine.Engine.seek_later.Goals as goal

pub returns-in_ok-push-in-Some : goal.returns-in_ok-push-in-Some
returns-in_ok-push-in-Some c = λ p h.
    let x = c.args.node.now in
    let y = c.in-Some.asked.now in
    let k = c.args.number in
    let xs = c.deref.result.now in
    let e = c.deref.ensures.value in
    goes_laid p (seeks_part p x k) y 0 what.Find c.args.self.now c.push.new.self tt (known_part x k xs e (length p.types.shapes) y c.in-Some.ensures h, tt) c.in_ok-push-in-Some.ensures
    (λ n s. seeks_some x k xs e p n s (views c.args.self.now.values.items) y c.in-Some.ensures)

pub returns-in-None : goal.returns-in-None
returns-in-None c = λ p h.
    let m = c.args.self.now in
    goes_undecided p (seeks_part p c.args.node.now c.args.number) m
    (λ n s. seeks_none c.args.node.now c.args.number c.deref.result.now c.deref.ensures.value p n s (views m.values.items) c.in-None.ensures m.depth (views m.machine.frame.items) (world_view m.machine.world) m.machine.turns)
