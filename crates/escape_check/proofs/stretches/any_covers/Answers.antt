use Rattle.std.proofs.Common.{◌∙◌, Some, None, nat_lt, ap}
use Rattle.escape_check.proofs.Stretching.{found_last}
use Rattle.escape_check.proofs.stretches.any_covers.Goals as goal

pub returns-in-Some : goal.returns-in-Some
returns-in-Some c order =
    ap (λ k. nat_lt k c.in-Some.stretch.now.upto) c.from.ensures
    ∙ found_last c.args.token c.begun.result c.args.stretches.now (Some c.in-Some.stretch.now) order (c.begun.ensures.begun order) (c.begun.ensures.behind order) c.in-Some.ensures.value

pub returns-in-None : goal.returns-in-None
returns-in-None c order = found_last c.args.token c.begun.result c.args.stretches.now None order (c.begun.ensures.begun order) (c.begun.ensures.behind order) c.in-None.ensures.value
