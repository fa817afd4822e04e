use Rattle.std.proofs.Common.{◌≡◌, List, Option, sym, subst, refl}
use Rattle.go_typed.specs.declared.node.TypedNode.{TypedNode}
use Rattle.go_types.specs.Tables.{Table, type_of, rights_of}
use Rattle.go_typed.specs.declared.node.TypedNode.TheViews.{out-TypedNode}
use Rattle.go_typed.specs.Trees.{label_mapped}
use Rattle.go_typed.specs.Views.{label_at, all_seen, sort_seen}
use Rattle.go_meaning.specs.Planning.{plan}
use Rattle.go_eval_plans.specs.Views.{plan_view}
use Rattle.go_eval_plans.specs.declared.places.Place.{Place}
use Rattle.go_eval_plans.specs.Places.{place_doing, IsPlace}
use Rattle.go_eval_plans.specs.Programs.{doing, doings}
use Rattle.go_eval_plans.proofs.Nodes.{node_place}
use Rattle.go_eval_plans.proofs.places.as_place.Goals as goal

pub returns : goal.returns
returns c = λ n.
    let p = c.args.checked.now in
    let x = c.args.node.now in
    let y = out-TypedNode x in
    let r = c.plan_of.result in
    let same : c.types.result.now ≡ p.types = c.types.ensures.types in
    let by : plan_view (rights_of p.types) (type_of p.types.shapes) (sort_seen p.types y.sort) (all_seen p.types y.parts.items) r ≡ plan (rights_of p.types) y.form (label_mapped (type_of p.types.shapes) (label_at y)) (all_seen p.types y.parts.items) =
    subst (λ (t : Table). plan_view (rights_of t) (type_of t.shapes) (sort_seen t y.sort) (all_seen t y.parts.items) r ≡ plan (rights_of t) y.form (label_mapped (type_of t.shapes) (label_at y)) (all_seen t y.parts.items)) same
    (subst (λ (xs : List (Option TypedNode)). plan_view (rights_of c.types.result.now) (type_of c.types.result.now.shapes) (sort_seen c.types.result.now y.sort) (all_seen c.types.result.now xs) r ≡ plan (rights_of c.types.result.now) y.form (label_mapped (type_of c.types.result.now.shapes) (label_at y)) (all_seen c.types.result.now xs)) c.deref.ensures.value (c.plan_of.ensures.plan (label_mapped (type_of c.types.result.now.shapes) (label_at y)) refl)) in
    subst (λ (q : Place). IsPlace (doing p n x) (place_doing q (doings p n y.parts.items))) (sym c.of_plan.ensures) (node_place p n x r by)
