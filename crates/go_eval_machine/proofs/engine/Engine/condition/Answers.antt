use Rattle.std.proofs.Common.{take}
use Rattle.go_values.specs.Views.{views}
use Rattle.go_eval_machine.specs.declared.task.What.TheVariants as what
use Rattle.go_eval_machine.specs.Engines.{works, lays_value}
use Rattle.go_eval_machine.proofs.Going.{goes_kept}
use Rattle.go_eval_machine.proofs.Stepping.{condition_next}
use Rattle.go_eval_machine.proofs.engine.Engine.condition.Goals as goal

pub returns : goal.returns
returns c =
    let p = c.args.checked.now in
    let x = c.args.node.now in
    let b = c.args.base in
    let old = c.args.self.now in
    let vs = views old.values.items in
    goes_kept p (works p x b what.Condition) (lays_value p x what.Branch 1) old c.cut.new.self c.lay_begun.result c.lay_begun.new.self (take b vs) c.cut.ensures.kept c.cut.ensures.values c.lay_begun.ensures
    (λ n s. condition_next p n x b s vs)
