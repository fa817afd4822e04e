-- The tree of a node, by its fields.
use Rattle.std.proofs.Common.{rules, ◌≡◌, ℕ}
use Rattle.go_typed.specs.declared.node.TypedNode.{TypedNode}
use Rattle.go_typed.specs.declared.node.TypedNode.TheViews.{out-TypedNode}
use Rattle.go_typed.specs.declared.node.TypedNode.TheFolds.{fold_out-TypedNode}
use Rattle.go_typed.specs.Trees.{Typed, typed}
use Rattle.go_typed.specs.Views.{view, views, label_at}

-- the tree that the fields of a node make
abbrev pub opened : TypedNode → Typed ℕ
opened x = typed (out-TypedNode x).form (out-TypedNode x).first (out-TypedNode x).last (label_at (out-TypedNode x)) (views (out-TypedNode x).parts.items)

pub view_out : (x : TypedNode) → view x ≡ opened x
view_out x = search (rules, fold_out-TypedNode)
