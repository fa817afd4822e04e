use Rattle.go_exprs_calls.proofs.Counts.{shown_not_one}
use Rattle.go_exprs_calls.proofs.arguments.one.Goals as goal

pub returns-in-len2-up-clause-none : goal.returns-in-len2-up-clause-none
returns-in-len2-up-clause-none c = shown_not_one c.args.types.now c.args.nodes.now c.in-len2-up.len_at_least
