use Rattle.std.proofs.Common.{refl, arith}
use Rattle.go_values.specs.Views.{views}
use Rattle.go_eval_machine.specs.declared.task.What.TheVariants as what
use Rattle.go_eval_machine.specs.Tasks.{task_rest}
use Rattle.go_eval_machine.specs.Engines.{Work, works}
use Rattle.go_eval_machine.proofs.Going.{goes_same, goes_pushed}
use Rattle.go_eval_machine.proofs.Gathering.{values_done}
use Rattle.go_eval_machine.proofs.Giving.{goes_laid_parts}
use Rattle.go_eval_machine.proofs.engine.Engine.perform_values.Goals as goal

pub returns : goal.returns
returns c =
    let p = c.args.checked.now in
    let x = c.args.node.now in
    let w = what.Perform c.args.deed in
    let b = c.top-base.result in
    let end = c.args.end in
    let j = c.in_ok-number.number in
    let m = c.give_parts.new.self in
    let left : Work = λ n s us. works p x b (what.Values j end) n (task_rest p n x b w s) us in
    goes_laid_parts p x w end j b c.args.self.now m c.top-base.ensures c.in_ok-number.ensures c.next_value.result c.next_value.new.self
    (goes_pushed p left (works p x b (what.Values j end)) x b w m c.push.new.self c.next_value.result c.next_value.new.self (c.requires.node, c.requires.deed) c.in_ok-push.ensures (c.next_value.ensures p c.requires.node) (λ n s d f u t. refl))

pub returns-then-number-end : goal.returns-then-number-end
returns-then-number-end c =
    let p = c.args.checked.now in
    let x = c.args.node.now in
    let w = what.Perform c.args.deed in
    let b = c.top-base.result in
    let end = c.args.end in
    let j = c.in_ok-number.number in
    let m = c.give_parts.new.self in
    let left : Work = λ n s us. works p x b (what.Values j end) n (task_rest p n x b w s) us in
    goes_laid_parts p x w end j b c.args.self.now m c.top-base.ensures c.in_ok-number.ensures c.perform.result c.perform.new.self
    (goes_same p left (works p x b w) m c.perform.result c.perform.new.self c.perform.ensures (λ n s. values_done p n x b (task_rest p n x b w s) (views m.values.items) j end (omega (arith, c.if-number-end.true))))
