use Rattle.std.proofs.Common.{◌≡◌, Option, Bor}
use Rattle.std.specs.List.{HoldsAt}
use Rattle.go_typed.specs.declared.node.TypedNode.{TypedNode}
use Rattle.go_eval_plans.proofs.Seen.{part_place}
use Rattle.go_eval_plans.proofs.parts.place.Goals as goal

pub returns : goal.returns
returns c =
    let now : Bor (Option TypedNode) → Option TypedNode = λ x. x.now in
    let xs = c.args.parts.now in
    part_place now xs c.args.number (λ x. HoldsAt {X = Option TypedNode} (λ y. now x ≡ y) xs c.args.number) c.get.result c.get.ensures.lookup.3 c.get.ensures.lookup.1
