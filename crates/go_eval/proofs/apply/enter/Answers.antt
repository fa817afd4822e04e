use Rattle.std.proofs.Common.{◌≡◌, ℕ, suc, ◌-◌, List, drop, length, refl, sym, ap, ◌∙◌, arith, Ok}
use Rattle.go_typed.specs.declared.node.TypedNode.{TypedNode}
use Rattle.go_meaning.specs.Values.{Value}
use Rattle.go_values.specs.Views.{views}
use Rattle.go_values.specs.Worlds.{world_view}
use Rattle.go_eval_machine.specs.declared.engine.Engine.{Engine}
use Rattle.go_eval.proofs.Entering.{goes_entered, not_entered}
use Rattle.go_eval.proofs.apply.enter.Goals as goal

pub returns-clause-goes : goal.returns-clause-goes
returns-clause-goes c = λ p h.
    let m = c.args.engine.now in
    goes_entered p c.args.function.now (drop 1 (views c.args.operands.items)) m
    (record m { machine = c.enter-outer.new.self; depth = m.depth - 1 }) c.push.new.self c.push-2.new.self c.in-Ok.frame c.enter-outer.result c.top-base.result c.root.result.now c.root-2.result.now
    c.root.ensures.root c.root-2.ensures.root h (omega (arith, c.if-engine-eq0.false)) refl refl (c.in-Ok.ensures p.types) c.enter-outer.ensures.frame c.enter-outer.ensures.outer c.enter-outer.ensures.world c.enter-outer.ensures.turns c.top-base.ensures c.in_ok-push.ensures c.in_ok-push-2.ensures

pub returns-then-engine-eq0-clause-goes : goal.returns-then-engine-eq0-clause-goes
returns-then-engine-eq0-clause-goes c = λ p h. not_entered p c.args.function.now (drop 1 (views c.args.operands.items)) c.args.engine.now c.if-engine-eq0.true

pub returns-clause-deep : goal.returns-clause-deep
returns-clause-deep c = λ z. absurd (omega (arith, z, c.if-engine-eq0.false))
