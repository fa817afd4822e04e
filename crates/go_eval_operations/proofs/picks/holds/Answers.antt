use Rattle.go_values.specs.Views.{view}
use Rattle.go_eval_operations.proofs.Picking.{nowhere, compared_is}
use Rattle.go_eval_operations.proofs.picks.holds.Goals as goal

pub returns : goal.returns
returns c = compared_is c.args.comparison (view c.args.value.now) (view c.args.other.now) c.compare.result nowhere (c.compare.ensures nowhere)
