use Rattle.go_tree.specs.Views.{view}
use Rattle.go_exprs_rules.specs.Scopes.{type_place}
use Rattle.go_package_stages.specs.Names.{ways_before}
use Rattle.go_package_stages.proofs.Told.{each_need}
use Rattle.go_package_stages.proofs.types.are_before_type.Goals as goal

pub returns : goal.returns
returns c =
    let m = c.args.marks.now in
    let w = ways_before m.named.uses.now m.file m.named.marks.now m.counted.uses.now m.counted.marks.now m.stage in
    λ h. each_need w type_place (view c.args.node.now) (c.is_type_node_before.ensures h)
