use Rattle.std.proofs.Common.{take}
use Rattle.go_values.specs.Views.{views}
use Rattle.go_eval_machine.specs.declared.task.What.TheVariants as what
use Rattle.go_eval_machine.specs.Engines.{works}
use Rattle.go_eval_machine.proofs.Going.{goes_returned}
use Rattle.go_eval_machine.proofs.Stepping.{returns_next}
use Rattle.go_eval_plans.specs.declared.exit.Values.TheVariants as values
use Rattle.go_eval_machine.proofs.engine.Engine.ends_body.Goals as goal

pub returns : goal.returns
returns c = λ p.
    let x = c.args.node.now in
    let b = c.args.base in
    let old = c.args.self.now in
    let vs = views old.values.items in
    goes_returned p (works p x b what.Return) old c.take.new.self (values.Many c.in_ok-results.results) (take b vs) c.in_ok-results.ensures.kept c.in_ok-results.ensures.values
    (λ n s. returns_next p n x b s vs (views c.in_ok-results.results.items) c.in_ok-results.ensures.taken)
