use Rattle.std.proofs.Common.{◌≡◌, refl, sym, subst, take}
use Rattle.std.specs.Prelude.{Box}
use Rattle.std.specs.declared.alloc.Global.{Global}
use Rattle.go_eval_plans.specs.Views.{items_view}
use Rattle.go_values.specs.Views.{view, views}
use Rattle.go_eval_machine.specs.declared.task.Iteration.{Iteration}
use Rattle.go_eval_machine.specs.declared.task.What.TheVariants as what
use Rattle.go_eval_machine.specs.Tasks.{IsIteration, first_above}
use Rattle.go_eval_machine.specs.Engines.{works}
use Rattle.go_eval_machine.proofs.Public.{goes_kept, Same}
use Rattle.go_eval.proofs.Ranging.{first_place, items_begin}
use Rattle.go_eval.proofs.ranges.items.Goals as goal

pub returns : goal.returns
returns c = λ p h.
    let x = c.args.node.now in
    let b = c.args.base in
    let m = c.args.engine.now in
    let vs = views m.values.items in
    let first : Iteration = record { targets = c.args.targets; items = c.args.items; operand = c.take_first-operand.result; count = c.item_count-count.result; next = 0; place = 0 } in
    let g : Box Iteration Global = c.in_ok-iteration.iteration in
    let made : g.value ≡ first = c.in_ok-iteration.ensures.ok in
    goes_kept p (works p x b (what.Items c.args.targets c.args.items)) (works p x b (what.Item g)) m c.take_first-operand.new.engine c.item.result c.item.new.engine (take b vs) c.take_first-operand.ensures.kept c.take_first-operand.ensures.values
    (c.item.ensures p (h, subst IsIteration (sym made) (record { count = c.item_count-count.ensures; place = first_place (items_view c.args.items) (view c.take_first-operand.result) })))
    (λ n s. subst (λ (i : Iteration). i.next ≡ 0 → view i.operand ≡ first_above b vs → Same (works p x b (what.Items i.targets i.items) n s vs) (works p x b (what.Item g) n s (take b vs))) made (items_begin p n x b s vs g) refl c.take_first-operand.ensures.first)
