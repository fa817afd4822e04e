use Rattle.std.proofs.Common.{sym, ◌∙◌}
use Rattle.go_eval_machine.proofs.Plans.{has_plan}
use Rattle.go_eval_machine.proofs.ready.ready_plan.Goals as goal

pub returns : goal.returns
returns c = λ p. has_plan p c.args.node.now (sym c.is_loop.ensures ∙ c.if-is_loop.false) c.form_plan.result c.of_sort.result c.form_plan.ensures c.of_sort.ensures
