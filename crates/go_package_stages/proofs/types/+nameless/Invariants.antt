use Rattle.std.proofs.Common.{◌*◌, ◌+◌, drop}
use Rattle.go_tree.specs.Views.{view, views}
use Rattle.go_tree.proofs.Public.{height, heights}
use Rattle.go_package_laws.specs.Names.{EachNameIn}
use Rattle.go_package_stages.proofs.types.+nameless.Given as goal

abbrev pub decreases-is_nameless : goal.decreases-is_nameless
decreases-is_nameless l = 2 * height (view l.node.now) + 1

abbrev pub decreases-are_nameless : goal.decreases-are_nameless
decreases-are_nameless l = 2 * heights (views l.parts.now)

abbrev pub invariant-are_nameless-loop-part : goal.invariant-are_nameless-loop-part
invariant-are_nameless-loop-part l = EachNameIn (λ i. ⊥) (views (drop l.part-index l.parts)) → EachNameIn (λ i. ⊥) (views l.parts)
