use Rattle.std.proofs.Common.{take, sym, subst}
use Rattle.go_values.specs.Views.{views}
use Rattle.go_eval_machine.specs.declared.task.What.TheVariants as what
use Rattle.go_eval_machine.specs.Engines.{works, lays_value, lays_given, Goes}
use Rattle.go_eval_machine.proofs.Going.{goes_kept}
use Rattle.go_eval_machine.proofs.Stepping.{turn_true, turn_false}
use Rattle.std.specs.Prelude.{Bool, true, false}
use Rattle.go_meaning.specs.Values as meant
use Rattle.go_eval_machine.proofs.Values.{view_truth}
use Rattle.go_eval_machine.proofs.engine.Engine.turn.Goals as goal

pub returns-then-condition : goal.returns-then-condition
returns-then-condition c =
    let p = c.args.checked.now in
    let x = c.args.node.now in
    let b = c.args.base in
    let old = c.args.self.now in
    let vs = views old.values.items in
    subst (λ (q : Bool). Goes p (works p x b (what.Turn q)) old c.lay_begun.result c.lay_begun.new.self) (sym c.if-condition.true)
    (goes_kept p (works p x b (what.Turn true)) (lays_value p x what.Block 1) old c.cut.new.self c.lay_begun.result c.lay_begun.new.self (take b vs) c.cut.ensures.kept c.cut.ensures.values c.lay_begun.ensures (λ n s. turn_true p n x b s vs))

pub returns-else-condition : goal.returns-else-condition
returns-else-condition c =
    let p = c.args.checked.now in
    let x = c.args.node.now in
    let b = c.args.base in
    let old = c.args.self.now in
    let vs = views old.values.items in
    subst (λ (q : Bool). Goes p (works p x b (what.Turn q)) old c.lay_given.result c.lay_given.new.self) (sym c.if-condition.false)
    (goes_kept p (works p x b (what.Turn false)) (lays_given p x what.Block (meant.Truth true)) old c.cut.new.self c.lay_given.result c.lay_given.new.self (take b vs) c.cut.ensures.kept c.cut.ensures.values
    (subst (λ (v : meant.Value). Goes p (lays_given p x what.Block v) c.cut.new.self c.lay_given.result c.lay_given.new.self) (view_truth true) (c.lay_given.ensures p (c.requires, tt))) (λ n s. turn_false p n x b s vs))
