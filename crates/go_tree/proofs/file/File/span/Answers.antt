use Rattle.std.proofs.Common.{subst, length}
use Rattle.go_tree.specs.File.{FileTree, IsFileTree}
use Rattle.go_tree.specs.Views.{view}
use Rattle.go_tree.proofs.Order.{node_in_order}
use Rattle.go_tree.proofs.file.File.span.Goals as goal

pub invariant_of-result : goal.invariant_of-result
invariant_of-result c =
    let f : FileTree = c.args.self.now in
    let h : IsFileTree f = subst IsFileTree c.self.view_is c.self.invariant in
    record { ordered = node_in_order f.tokens.tokens 0 (length f.tokens.text) (view c.args.node.now) c.start.result c.end.result h.tokens.tokens c.requires.some c.start.ensures c.end.ensures }
