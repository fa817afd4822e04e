use Rattle.std.proofs.Common.{◌≡◌, ◌+◌, ◌*◌, ◌++◌, drop, map}
use Rattle.std.specs.Option.{option_map}
use Rattle.go_tree.specs.Views.{view, views}
use Rattle.go_tree.proofs.Public.{height, heights}
use Rattle.go_stmts_defs.specs.Bodies.{based}
use Rattle.go_stmts.proofs.counted.+based.Given as goal

-- a node's measure is twice its height and one, and that of parts twice the height of a node that has them
abbrev pub decreases-based : goal.decreases-based
decreases-based l = 2 * height (view l.node.now) + 1

abbrev pub decreases-all_based : goal.decreases-all_based
decreases-all_based l = 2 * heights (views l.parts.now)

abbrev pub invariant-all_based-loop-part : goal.invariant-all_based-loop-part
invariant-all_based-loop-part l = map (option_map view) l.out.items ++ map (option_map (based l.base)) (map (option_map view) (drop l.part-index l.parts)) ≡ map (option_map (based l.base)) (map (option_map view) l.parts)
