use Rattle.std.proofs.Common.{List, sym, ap, ◌∙◌}
use Rattle.go_meaning.specs.Values.{is_true, nth}
use Rattle.go_values.specs.declared.value.Value.{Value}
use Rattle.go_values.specs.Views.{views}
use Rattle.go_eval_machine.proofs.Values.{nth_drop}
use Rattle.go_eval_machine.proofs.engine.Engine.test.Goals as goal

pub returns-clause-holds : goal.returns-clause-holds
returns-clause-holds c = c.is_true-holds.ensures ∙ ap is_true (c.operand.ensures ∙ (ap (λ (vs : List Value). nth (views vs) c.args.base) c.deref.ensures.value ∙ sym (nth_drop (views c.args.self.now.values.items) c.args.base)))
