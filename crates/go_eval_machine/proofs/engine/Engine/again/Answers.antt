use Rattle.std.proofs.Common.{◌≡◌, List, take, sym, ap, ◌∙◌, Ok, Option}
use Rattle.go_types.specs.Tables.{type_of}
use Rattle.go_typed.specs.declared.node.TypedNode.{TypedNode}
use Rattle.go_typed.specs.declared.node.TypedNode.TheViews.{out-TypedNode}
use Rattle.go_typed.specs.Views.{all_seen}
use Rattle.go_meaning.specs.Planning.{part_at, is_there}
use Rattle.go_values.specs.Views.{views}
use Rattle.go_values.specs.Worlds.{world_view}
use Rattle.go_eval_machine.specs.declared.task.What.TheVariants as what
use Rattle.go_eval_machine.specs.Engines.{works, lays, asks}
use Rattle.go_eval_machine.proofs.Going.{goes_kept_at, goes_laid}
use Rattle.go_eval_machine.proofs.Again.{again_turns, again_asks, laid_value}
use Rattle.go_eval_machine.proofs.engine.Engine.again.Goals as goal

pub returns-then-is_loop : goal.returns-then-is_loop
returns-then-is_loop c =
    let p = c.args.checked.now in
    let x = c.args.node.now in
    let b = c.args.base in
    let old = c.args.self.now in
    let vs = views old.values.items in
    let q = c.is_there-condition.result in
    let there : q ≡ is_there (part_at (all_seen p.types (out-TypedNode x).parts.items) 1) =
    c.is_there-condition.ensures (type_of p.types.shapes) ∙ ap (λ (ys : List (Option TypedNode)). is_there (part_at (all_seen p.types ys) 1)) c.deref.ensures.value in
    goes_kept_at p (works p x b what.Again) (lays p x (what.Turn q)) old c.cut.new.self c.begin_turn.result c.begin_turn.new.self (take b vs) c.cut.ensures.kept c.cut.ensures.values c.begin_turn.ensures
    (λ n s le. again_turns p n x b s vs q there (sym c.is_loop.ensures ∙ c.if-is_loop.true) old.depth (views old.machine.frame.items) (world_view old.machine.world) old.machine.turns le)

pub returns-in_ok-push : goal.returns-in_ok-push
returns-in_ok-push c =
    let p = c.args.checked.now in
    let x = c.args.node.now in
    let b = c.args.base in
    let old = c.args.self.now in
    let vs = views old.values.items in
    goes_kept_at p (works p x b what.Again) (asks p x) old c.cut.new.self (Ok (tt {0})) c.push.new.self (take b vs) c.cut.ensures.kept c.cut.ensures.values
    (goes_laid p (asks p x) x 0 what.Value c.cut.new.self c.push.new.self (tt {0}) (c.requires, tt) c.in_ok-push.ensures (λ n s. laid_value p n x s (views c.cut.new.self.values.items)))
    (λ n s le. again_asks p n x b s vs (sym c.is_loop.ensures ∙ c.if-is_loop.false) old.depth (views old.machine.frame.items) (world_view old.machine.world) old.machine.turns le)
