use Rattle.std.proofs.Common.{take, sym, ◌∙◌}
use Rattle.go_values.specs.Views.{views}
use Rattle.go_eval_machine.specs.declared.task.What.TheVariants as what
use Rattle.go_eval_machine.specs.Engines.{works, asks_part}
use Rattle.go_eval_machine.proofs.Going.{goes_kept}
use Rattle.go_eval_machine.proofs.Stepping.{branch_true, branch_false}
use Rattle.go_eval_machine.proofs.engine.Engine.branch.Goals as goal

pub returns-then-test : goal.returns-then-test
returns-then-test c =
    let p = c.args.checked.now in
    let x = c.args.node.now in
    let b = c.args.base in
    let old = c.args.self.now in
    let vs = views old.values.items in
    goes_kept p (works p x b what.Branch) (asks_part p x 2) old c.test.new.self c.ask_block.result c.ask_block.new.self (take b vs) c.test.ensures.kept c.test.ensures.values c.ask_block.ensures
    (λ n s. branch_true p n x b s vs (sym c.test.ensures.holds ∙ c.if-test.true))

pub returns-else-test : goal.returns-else-test
returns-else-test c =
    let p = c.args.checked.now in
    let x = c.args.node.now in
    let b = c.args.base in
    let old = c.args.self.now in
    let vs = views old.values.items in
    goes_kept p (works p x b what.Branch) (asks_part p x 3) old c.test.new.self c.ask_block-else-test.result c.ask_block-else-test.new.self (take b vs) c.test.ensures.kept c.test.ensures.values c.ask_block-else-test.ensures
    (λ n s. branch_false p n x b s vs (sym c.test.ensures.holds ∙ c.if-test.false))
