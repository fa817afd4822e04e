use Rattle.std.proofs.Common.{ap, ◌∙◌}
use Rattle.std.proofs.lemmas.List.{take_rest}
use Rattle.go_values.specs.Views.{views}
use Rattle.go_eval_machine.proofs.Values.{drop_views}
use Rattle.go_eval_machine.proofs.operands.above.Goals as goal

pub returns-then-base-values : goal.returns-then-base-values
returns-then-base-values c = ap views (take_rest c.args.values.now c.args.base) ∙ drop_views c.args.base c.args.values.now
