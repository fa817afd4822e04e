use Rattle.std.proofs.Common.{nat_eq, ap, sym}
use Rattle.go_exprs_calls.proofs.Public.{length-shown}
use Rattle.go_package_types.proofs.rules.is_count.Goals as goal

pub returns : goal.returns
returns c = sym (ap (λ m. nat_eq c.args.count m) (length-shown c.args.types.now c.args.values.now))
