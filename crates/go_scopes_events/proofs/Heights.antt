-- How deep a tree is.
use Rattle.std.proofs.Common.{◌≡◌, ℕ, zero, suc, ◌<◌, max, List, [], ◌∷◌, Option, Some, None, slice_get, refl, ap, arith}
use Rattle.go_grammar.specs.Trees.{Tree, node, Trees, none, more, skip, parts}
use Rattle.go_tree.specs.declared.node.Node.{Node}
use Rattle.go_tree.specs.Views.{view, views}

abbrev mutual
  -- the greatest number of nodes above a node of the tree
  pub height : Tree → ℕ
  height (node k i j ps) = heights ps

  -- the same below a node with these parts
  pub heights : Trees → ℕ
  heights none = 0
  heights (more p ps) = max (suc (height p)) (heights ps)
  heights (skip ps) = heights ps

pub height-parts : (t : Tree) → height t ≡ heights (parts t)
height-parts (node k i j ps) = refl

-- a part is less high than its node
pub height-part : (ps : List (Option Node)) (i : ℕ) (p : Node) → slice_get ps i ≡ Some (Some p) → height (view p) < heights (views ps)
height-part [] i p h = cc
height-part (None ∷ ps) zero p h = cc
height-part (Some q ∷ ps) zero p h =
    let e : height (view q) ≡ height (view p) = ap (λ n. height (view n)) (let same : q ≡ p = cc in same) in omega arith
height-part (None ∷ ps) (suc i) p h = height-part ps i p h
height-part (Some q ∷ ps) (suc i) p h = let k : height (view p) < heights (views ps) = height-part ps i p h in omega arith
