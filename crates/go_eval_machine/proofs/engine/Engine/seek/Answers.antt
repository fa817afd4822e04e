use Rattle.std.proofs.Common.{refl}
use Rattle.go_values.specs.Views.{views}
use Rattle.go_eval_machine.specs.Engines.{seeks_part}
use Rattle.go_eval_machine.proofs.Going.{goes_given}
use Rattle.go_eval_machine.proofs.Giving.{kept_still, sought_nothing}
use Rattle.go_eval_machine.proofs.engine.Engine.seek.Goals as goal

pub returns-then-is_plain_part : goal.returns-then-is_plain_part
returns-then-is_plain_part c = λ p h.
    let x = c.args.node.now in
    let old = c.args.self.now in
    let vs = views old.values.items in
    goes_given p (seeks_part p x c.args.number) old old (tt {0}) vs (kept_still old) refl (λ n s. sought_nothing p n x s vs c.args.number (c.is_plain_part.ensures c.if-is_plain_part.true p n))
