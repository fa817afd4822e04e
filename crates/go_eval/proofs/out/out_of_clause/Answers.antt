use Rattle.std.proofs.Common.{take, refl}
use Rattle.go_values.specs.Views.{views}
use Rattle.go_eval_plans.specs.declared.exit.Exit.TheVariants as exit
use Rattle.go_eval_machine.specs.declared.task.What.TheVariants as what
use Rattle.go_eval_machine.specs.Engines.{falls}
use Rattle.go_eval_machine.proofs.Public.{goes_same, goes_given}
use Rattle.go_eval.specs.Outs.{outs}
use Rattle.go_eval.proofs.Leaving.{goes_out, clause_falls, clause_breaks, clause_lets, lets_clause_by}
use Rattle.go_eval.proofs.out.out_of_clause.Goals as goal

pub returns-in-Fallthrough : goal.returns-in-Fallthrough
returns-in-Fallthrough c = λ p h. let x = c.args.node.now in let b = c.args.base in let k = c.args.next in let m = c.args.engine.now in
    rw c.in-Fallthrough.is (goes_same p (outs p x b (what.Fall k) exit.Fallthrough) (falls p x b k) m c.fall.result c.fall.new.self (c.fall.ensures p h) (λ n s. clause_falls p n x b s (views m.values.items) k))

pub returns-in-Break : goal.returns-in-Break
returns-in-Break c = λ p h. let x = c.args.node.now in let b = c.args.base in let k = c.args.next in let m = c.args.engine.now in
    rw c.in-Break.is (goes_given p (outs p x b (what.Fall k) exit.Break) m c.cut.new.self (tt {0}) (take b (views m.values.items)) c.cut.ensures.kept c.cut.ensures.values (λ n s. clause_breaks p n x b s (views m.values.items) k))

pub returns-in_default : goal.returns-in_default
returns-in_default c = λ p h. let x = c.args.node.now in let b = c.args.base in let k = c.args.next in let m = c.args.engine.now in let e = c.args.exit in
    goes_out p (outs p x b (what.Fall k) e) m c.cut-in_default.new.self (take b (views m.values.items)) c.cut-in_default.ensures.kept c.cut-in_default.ensures.values e (λ n s. clause_lets p n x b s (views m.values.items) k e (lets_clause_by e c.in_default.not-Break c.in_default.not-Fallthrough))
