use Rattle.std.proofs.Common.{arith}
use Rattle.go_exprs_calls.proofs.Counts.{shown_below_two, shown_not_two}
use Rattle.go_exprs_calls.proofs.arguments.two.Goals as goal

pub returns-in-len1-clause-none : goal.returns-in-len1-clause-none
returns-in-len1-clause-none c = shown_below_two c.args.types.now c.args.nodes.now (omega arith)

pub returns-in-len3-up-clause-none : goal.returns-in-len3-up-clause-none
returns-in-len3-up-clause-none c = shown_not_two c.args.types.now c.args.nodes.now c.in-len3-up.len_at_least
