use Rattle.std.proofs.Common.{ap, ◌∙◌, sym, arith}
use Rattle.std.proofs.lemmas.List.{take_all}
use Rattle.go_values.specs.Views.{views}
use Rattle.go_eval_machine.proofs.Values.{take_views}
use Rattle.go_eval_machine.proofs.engine.Engine.cut.Goals as goal

pub returns-then-base-top-clause-values : goal.returns-then-base-top-clause-values
returns-then-base-top-clause-values c = sym (take_all c.args.base (views c.args.self.now.values.items) (omega (arith, c.if-base-top.true, c.top-top.ensures)))

pub returns-clause-values : goal.returns-clause-values
returns-clause-values c = ap views c.truncate.ensures.items ∙ take_views c.args.base c.args.self.now.values.items
