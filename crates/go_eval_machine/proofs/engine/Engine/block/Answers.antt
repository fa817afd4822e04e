use Rattle.std.proofs.Common.{take, refl, sym, subst, ◌∙◌, Err}
use Rattle.go_values.specs.Views.{views}
use Rattle.go_eval_machine.specs.declared.task.What.TheVariants as what
use Rattle.go_eval_machine.specs.Engines.{works, lays_value, Goes}
use Rattle.go_eval_machine.proofs.Going.{goes_given, goes_spent, goes_unspent}
use Rattle.go_eval_machine.proofs.Stepping.{block_true, block_false, block_spent}
use Rattle.std.proofs.lemmas.Result.{err_from_is_err_and}
use Rattle.go_eval_plans.specs.declared.exit.Exit.{Exit}
use Rattle.go_eval_machine.proofs.engine.Engine.block.Goals as goal

pub returns-else-test : goal.returns-else-test
returns-else-test c =
    let p = c.args.checked.now in
    let x = c.args.node.now in
    let b = c.args.base in
    let old = c.args.self.now in
    let vs = views old.values.items in
    goes_given p (works p x b what.Block) old c.test.new.self (tt {0}) (take b vs) c.test.ensures.kept c.test.ensures.values (λ n s. block_false p n x b s vs (sym c.test.ensures.holds ∙ c.if-test.false))

pub returns-in_ok-spend : goal.returns-in_ok-spend
returns-in_ok-spend c =
    let p = c.args.checked.now in
    let x = c.args.node.now in
    let b = c.args.base in
    let old = c.args.self.now in
    let vs = views old.values.items in
    let m = record c.test.new.self { machine = c.spend.new.self } in
    goes_spent p (works p x b what.Block) (lays_value p x what.Round 3) old c.test.new.self m c.lay_block.result c.lay_block.new.self (take b vs) c.test.ensures.kept c.test.ensures.values refl refl refl c.in_ok-spend.ensures c.lay_block.ensures
    (λ n s. block_true p n x b s vs (sym c.test.ensures.holds ∙ c.if-test.true))

pub returns-in_err-spend : goal.returns-in_err-spend
returns-in_err-spend c =
    let p = c.args.checked.now in
    let x = c.args.node.now in
    let b = c.args.base in
    let old = c.args.self.now in
    let vs = views old.values.items in
    let m = record c.test.new.self { machine = c.spend.new.self } in
    let q = err_from_is_err_and c.from_residual.result c.from_residual.ensures.1 in
    rw (q.1, q.2) (subst (λ (e : Exit). Goes {X = Unit {0}} p (works p x b what.Block) old (Err e) m) (sym c.in_err-spend.ensures.0)
    (goes_unspent p (works p x b what.Block) old c.test.new.self m c.test.ensures.kept refl refl c.in_err-spend.ensures.1 c.in_err-spend.ensures.2 (λ n s. block_spent p n x b s vs (sym c.test.ensures.holds ∙ c.if-test.true))))
