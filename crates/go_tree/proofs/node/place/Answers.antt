use Rattle.std.proofs.Common.{◌≡◌, Option, Bor}
use Rattle.std.specs.List.{HoldsAt}
use Rattle.go_tree.specs.declared.node.Node.{Node}
use Rattle.go_tree.proofs.Rows.{part_get}
use Rattle.go_tree.proofs.node.place.Goals as goal

pub returns : goal.returns
returns c =
    let now : Bor (Option Node) → Option Node = λ x. x.now in
    let xs = c.args.parts.now in
    part_get now xs c.args.number (λ x. HoldsAt {X = Option Node} (λ y. now x ≡ y) xs c.args.number) c.get.result c.get.ensures.lookup.3 c.get.ensures.lookup.1
