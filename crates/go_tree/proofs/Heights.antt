-- How high trees are.
use Rattle.std.proofs.Common.{◌≡◌, ℕ, zero, suc, ◌<◌, List, [], ◌∷◌, Option, Some, None, slice_get, ap, arith}
use Rattle.std.specs.Prelude.{max}
use Rattle.go_grammar.specs.Trees.{Tree, node, Trees, none, more, skip}
use Rattle.go_tree.specs.declared.node.Node.{Node}
use Rattle.go_tree.specs.Views.{view, views}

-- the longest way down from a tree, in steps, and from a node that has a row of parts
abbrev mutual
  pub height : Tree → ℕ
  height (node k i j ps) = heights ps

  pub heights : Trees → ℕ
  heights none = 0
  heights (more p ps) = max (suc (height p)) (heights ps)
  heights (skip ps) = heights ps

-- a part is less high than the row
pub height-part : (parts : List (Option Node)) (i : ℕ) (part : Node) → slice_get parts i ≡ Some (Some part) → height (view part) < heights (views parts)
height-part [] i part h = cc
height-part (None ∷ ps) zero part h = cc
height-part (Some p ∷ ps) zero part h =
    let e : height (view p) ≡ height (view part) = ap (λ n. height (view n)) (let same : p ≡ part = cc in same) in omega arith
height-part (None ∷ ps) (suc i) part h = height-part ps i part h
height-part (Some p ∷ ps) (suc i) part h = let k : height (view part) < heights (views ps) = height-part ps i part h in omega arith
