use Rattle.std.proofs.Common.{List, take, sym, ◌∙◌}
use Rattle.go_values.specs.Views.{views}
use Rattle.go_eval_machine.specs.declared.task.What.TheVariants as what
use Rattle.go_eval_machine.specs.Engines.{works, falls}
use Rattle.go_eval_machine.proofs.Public.{goes_kept}
use Rattle.go_eval.proofs.Switching.{clause_true, clause_false}
use Rattle.go_eval.proofs.switches.clause.Goals as goal

pub returns-then-test : goal.returns-then-test
returns-then-test c =
    let p = c.args.checked.now in
    let x = c.args.node.now in
    let b = c.args.base in
    let k = c.args.test in
    let m = c.args.engine.now in
    let vs = views m.values.items in
    goes_kept p (works p x b (what.Clause c.args.next c.args.default k)) (falls p x b c.args.next) m c.test.new.self c.fall.result c.fall.new.self (take k vs) c.test.ensures.kept c.test.ensures.values (c.fall.ensures p c.requires)
    (λ n s. clause_true p n x b s vs c.args.next c.args.default k (sym c.test.ensures.holds ∙ c.if-test.true))

pub returns : goal.returns
returns c =
    let p = c.args.checked.now in
    let x = c.args.node.now in
    let b = c.args.base in
    let k = c.args.test in
    let m = c.args.engine.now in
    let vs = views m.values.items in
    let j = c.in_ok-following.following in
    goes_kept p (works p x b (what.Clause c.args.next c.args.default k)) (works p x b (what.Clauses j c.args.default)) m c.test.new.self c.clauses.result c.clauses.new.engine (take k vs) c.test.ensures.kept c.test.ensures.values c.clauses.ensures
    (λ n s. clause_false p n x b s vs c.args.next c.args.default k j c.in_ok-following.ensures (sym c.test.ensures.holds ∙ c.if-test.false))
