use Rattle.go_eval_machine.proofs.Values.{take_views}
use Rattle.go_eval_machine.proofs.assigned.below.Goals as goal

pub returns-then-base-values : goal.returns-then-base-values
returns-then-base-values c = take_views c.args.base c.args.values.now
