use Rattle.std.proofs.Common.{◌≡◌, ◌∙◌, Some, None, slice_get, ap, sym}
use Rattle.std.specs.Option.{option_map}
use Rattle.go_typed.specs.Views.{view}
use Rattle.go_typed.proofs.NodeTables.{list-found, no-list}
use Rattle.go_typed.proofs.node_table.NodeTable.list.Goals as goal

pub returns-in_err-node : goal.returns-in_err-node
returns-in_err-node c =
    let lookup : slice_get c.args.self.now.lists.items c.args.number ≡ None = c.list_node.ensures ∙ c.in_err-node.was in
    let gone : c.from_residual.result ≡ None = c.from_residual.ensures in
    no-list (view c.args.tree.now) c.args.self.now c.args.number c.requires lookup
    ∙ ap (option_map (λ n. view n.now)) (sym gone)

pub returns : goal.returns
returns c =
    let lookup : slice_get c.args.self.now.lists.items c.args.number ≡ Some c.in_ok-node.node = c.list_node.ensures ∙ c.in_ok-node.was in
    list-found (view c.args.tree.now) c.args.self.now c.args.number c.in_ok-node.node c.requires lookup ∙ c.node.ensures
