use Rattle.std.proofs.Common.{take, refl}
use Rattle.go_values.specs.Views.{views}
use Rattle.go_eval_plans.specs.declared.exit.Exit.TheVariants as exit
use Rattle.go_eval_machine.specs.declared.task.What.TheVariants as what
use Rattle.go_eval_machine.specs.Engines.{works}
use Rattle.go_eval_machine.proofs.Public.{goes_same, goes_given}
use Rattle.go_eval.specs.Outs.{outs}
use Rattle.go_eval.proofs.Leaving.{goes_out, items_continue, items_break, items_let, lets_block_by}
use Rattle.go_eval.proofs.out.out_of_items.Goals as goal

pub returns-in-Continue : goal.returns-in-Continue
returns-in-Continue c = λ p h. let x = c.args.node.now in let b = c.args.base in let g = c.args.iteration in let m = c.args.engine.now in
    rw c.in-Continue.is (goes_same p (outs p x b (what.ItemRound g) exit.Continue) (works p x b (what.Item g)) m c.item.result c.item.new.engine (c.item.ensures p h) (λ n s. items_continue p n x b s (views m.values.items) g))

pub returns-in-Break : goal.returns-in-Break
returns-in-Break c = λ p h. let x = c.args.node.now in let b = c.args.base in let g = c.args.iteration in let m = c.args.engine.now in
    rw c.in-Break.is (goes_given p (outs p x b (what.ItemRound g) exit.Break) m c.cut.new.self (tt {0}) (take b (views m.values.items)) c.cut.ensures.kept c.cut.ensures.values (λ n s. items_break p n x b s (views m.values.items) g))

pub returns-in_default : goal.returns-in_default
returns-in_default c = λ p h. let x = c.args.node.now in let b = c.args.base in let g = c.args.iteration in let m = c.args.engine.now in let e = c.args.exit in
    goes_out p (outs p x b (what.ItemRound g) e) m c.cut-in_default.new.self (take b (views m.values.items)) c.cut-in_default.ensures.kept c.cut-in_default.ensures.values e (λ n s. items_let p n x b s (views m.values.items) g e (lets_block_by e c.in_default.not-Break c.in_default.not-Continue))
