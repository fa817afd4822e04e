use Rattle.std.proofs.Common.{◌≡◌, drop}
use Rattle.std.specs.List.{list_all}
use Rattle.go_typed.specs.Packages.{is_known_tree}
use Rattle.go_typed.specs.Views.{view}
use Rattle.go_typed_parts.specs.Shown.{counts_view}
use Rattle.go_typed_parts.proofs.known.are_known_trees.Given as goal

abbrev pub invariant-loop-node : goal.invariant-loop-node
invariant-loop-node l = list_all (λ n. is_known_tree (counts_view l.counts) l.count (view n)) l.nodes ≡ list_all (λ n. is_known_tree (counts_view l.counts) l.count (view n)) (drop l.node-index l.nodes)
