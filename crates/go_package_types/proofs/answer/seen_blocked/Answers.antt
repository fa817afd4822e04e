use Rattle.std.proofs.lemmas.Result.{IfOk-weaker}
use Rattle.go_package_rounds.specs.World.{package_in, specifications_in}
use Rattle.go_package_types.proofs.answer.seen_blocked.Goals as goal

pub returns-then-is_failing : goal.returns-then-is_failing
returns-then-is_failing c = IfOk-weaker c.blocked_in_order.result _ _
    (λ v e ss t l fe ae n d at bt. e (package_in c.args.world.now) (specifications_in c.args.world.now) ss n d t l at fe ae bt)
    c.blocked_in_order.ensures
