use Rattle.std.proofs.Common.{◌≡◌, List, Option, subst, refl}
use Rattle.go_types.specs.Tables.{Table, type_of, rights_of}
use Rattle.go_typed.specs.declared.node.TypedNode.{TypedNode}
use Rattle.go_typed.specs.declared.node.TypedNode.TheViews.{out-TypedNode}
use Rattle.go_typed.specs.Trees.{label_mapped}
use Rattle.go_typed.specs.Views.{label_at, all_seen, sort_seen}
use Rattle.go_meaning.specs.Planning.{plan}
use Rattle.go_eval_plans.specs.Views.{plan_view}
use Rattle.go_values.specs.Views.{views}
use Rattle.go_eval_machine.specs.Engines.{asks, begins}
use Rattle.go_eval_machine.proofs.Going.{goes_same}
use Rattle.go_eval_machine.proofs.Begins.{asks_by_plan}
use Rattle.go_eval_machine.proofs.engine.Engine.start.Goals as goal

pub returns : goal.returns
returns c =
    let p = c.args.checked.now in
    let x = c.args.node.now in
    let y = out-TypedNode x in
    let r = c.plan_of-plan.result in
    let old = c.args.self.now in
    let u = c.types.result.now in
    let by : plan_view (rights_of p.types) (type_of p.types.shapes) (sort_seen p.types y.sort) (all_seen p.types y.parts.items) r ≡ plan (rights_of p.types) y.form (label_mapped (type_of p.types.shapes) (label_at y)) (all_seen p.types y.parts.items) =
    subst (λ (t : Table). plan_view (rights_of t) (type_of t.shapes) (sort_seen t y.sort) (all_seen t y.parts.items) r ≡ plan (rights_of t) y.form (label_mapped (type_of t.shapes) (label_at y)) (all_seen t y.parts.items)) c.types.ensures.types
    (subst (λ (xs : List (Option TypedNode)). plan_view (rights_of u) (type_of u.shapes) (sort_seen u y.sort) (all_seen u xs) r ≡ plan (rights_of u) y.form (label_mapped (type_of u.shapes) (label_at y)) (all_seen u xs)) c.deref.ensures.value (c.plan_of-plan.ensures.plan (label_mapped (type_of u.shapes) (label_at y)) refl)) in
    goes_same p (asks p x) (begins p x r) old c.begin.result c.begin.new.self c.begin.ensures (λ n s. asks_by_plan p x r by n s (views old.values.items))
