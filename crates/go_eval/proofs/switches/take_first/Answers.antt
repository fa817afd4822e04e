use Rattle.std.proofs.Common.{refl, sym, ap, take, ◌∙◌}
use Rattle.go_values.specs.Views.{views}
use Rattle.go_eval_machine.proofs.Public.{nth_drop}
use Rattle.go_meaning.specs.Values.{NilFunction}
use Rattle.go_eval.proofs.Switching.{take_set}
use Rattle.go_eval.proofs.switches.take_first.Goals as goal

pub returns-clause-first : goal.returns-clause-first
returns-clause-first c = c.take_at-first.ensures.taken ∙ sym (nth_drop (views c.args.engine.now.values.items) c.args.base)

pub returns-clause-values : goal.returns-clause-values
returns-clause-values c = c.cut.ensures.values ∙ (ap (take c.args.base) c.take_at-first.ensures.left ∙ take_set (views c.args.engine.now.values.items) c.args.base NilFunction)

pub returns-clause-kept : goal.returns-clause-kept
returns-clause-kept c = record { tasks = c.cut.ensures.kept.tasks; machine = c.cut.ensures.kept.machine; depth = c.cut.ensures.kept.depth }
