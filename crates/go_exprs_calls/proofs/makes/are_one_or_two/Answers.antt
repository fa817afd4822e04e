use Rattle.std.proofs.Common.{length}
use Rattle.go_exprs_calls.specs.Shown.{shown}
use Rattle.go_exprs_calls.proofs.Counts.{one_or_two}
use Rattle.go_exprs_calls.proofs.Lists.{length-shown}
use Rattle.go_exprs_calls.proofs.makes.are_one_or_two.Goals as goal

pub returns-then-sizes-ge1-clause-count : goal.returns-then-sizes-ge1-clause-count
returns-then-sizes-ge1-clause-count c =
    let t = c.args.types.now in
    let ns = c.args.sizes.now in
    one_or_two (length ns) (length (shown t ns)) (length-shown t ns) c.if-sizes-ge1.true
