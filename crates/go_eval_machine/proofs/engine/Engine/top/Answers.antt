use Rattle.std.proofs.Common.{List, length, sym, ap, ◌∙◌}
use Rattle.go_values.specs.declared.value.Value.{Value}
use Rattle.go_eval_machine.proofs.Values.{as_long}
use Rattle.go_eval_machine.proofs.engine.Engine.top.Goals as goal

pub returns : goal.returns
returns c = ap (λ (vs : List Value). length vs) c.as_slice.ensures.value ∙ sym (as_long c.args.self.now.values.items)
