use Rattle.std.proofs.Common.{ap, ◌∙◌}
use Rattle.go_values.specs.Views.{views}
use Rattle.go_eval_machine.proofs.Values.{drop_views, take_views}
use Rattle.go_eval_machine.proofs.engine.Engine.take.Goals as goal

pub returns-in_ok-split_off-clause-taken : goal.returns-in_ok-split_off-clause-taken
returns-in_ok-split_off-clause-taken c = ap views c.in_ok-split_off.ensures.tail ∙ drop_views c.args.base c.args.self.now.values.items

pub returns-in_ok-split_off-clause-values : goal.returns-in_ok-split_off-clause-values
returns-in_ok-split_off-clause-values c = ap views c.in_ok-split_off.ensures.items ∙ take_views c.args.base c.args.self.now.values.items
