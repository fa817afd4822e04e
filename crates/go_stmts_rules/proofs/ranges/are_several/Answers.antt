use Rattle.std.proofs.Common.{nat_lt, ap, sym}
use Rattle.go_exprs_calls.proofs.Public.{length-shown}
use Rattle.go_stmts_rules.proofs.ranges.are_several.Goals as goal

pub returns : goal.returns
returns c = sym (ap (λ n. nat_lt 1 n) (length-shown c.args.types.now c.args.targets.now))
