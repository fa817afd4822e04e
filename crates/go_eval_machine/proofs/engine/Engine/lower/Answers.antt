use Rattle.std.proofs.Common.{sym, ◌∙◌, arith}
use Rattle.go_values.specs.Views.{views}
use Rattle.go_eval_machine.proofs.Gathering.{taken_within, taken_beyond}
use Rattle.go_eval_machine.proofs.engine.Engine.lower.Goals as goal

pub returns-then-base-top : goal.returns-then-base-top
returns-then-base-top c = sym (taken_within c.args.base (views c.args.self.now.values.items) (omega (arith, c.top-top.ensures, c.if-base-top.true)))

pub returns-else-base-top : goal.returns-else-base-top
returns-else-base-top c = c.top-top.ensures ∙ sym (taken_beyond c.args.base (views c.args.self.now.values.items) (omega (arith, c.top-top.ensures, c.if-base-top.false)))
