-- Rows of types.
use Rattle.std.proofs.Common.{◌≡◌, ℕ, ◌≤◌, List, [], ◌∷◌, length, map, false, refl, arith}
use Rattle.go_types.specs.Trees.{TypeTree, row}
use Rattle.go_exprs_rules.specs.Names.{is_row_empty}

pub row_not_empty : (f : ℕ → TypeTree) (rs : List ℕ) → 1 ≤ length rs → is_row_empty (row (map f rs)) ≡ false
row_not_empty f [] h = absurd (omega (arith, h))
row_not_empty f (r ∷ rs) h = refl
