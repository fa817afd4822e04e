-- How many fields a struct type has.
use Rattle.std.proofs.Common.{◌≡◌, List, [], ◌∷◌, suc, length, map, refl, ap}
use Rattle.go_types.specs.Trees.{TypeTree, row}
use Rattle.go_exprs_rules.specs.Calls.{row_length}

pub few_fields : {A : Type 0} (f : A → TypeTree) (xs : List A) → row_length (row (map f xs)) ≡ length xs
few_fields f [] = refl
few_fields f (x ∷ xs) = ap suc (few_fields f xs)
