-- How many arguments there are.
use Rattle.std.specs.Prelude.{List, [], ◌∷◌, Option, Some, None}
use Rattle.go_typed.specs.declared.node.TypedNode.{TypedNode}
use Rattle.go_exprs_rules.specs.Settling.{Part}

-- there is no first part, or it is left out
abbrev pub HasNoFirst : List (Option TypedNode) → Type 0
HasNoFirst [] = Unit {0}
HasNoFirst (None ∷ xs) = Unit {0}
HasNoFirst (Some x ∷ xs) = ⊥

abbrev pub IsNotOne : List Part → Type 0
IsNotOne [] = Unit {0}
IsNotOne (x ∷ []) = ⊥
IsNotOne (x ∷ y ∷ xs) = Unit {0}

abbrev pub IsNotTwo : List Part → Type 0
IsNotTwo [] = Unit {0}
IsNotTwo (x ∷ []) = Unit {0}
IsNotTwo (x ∷ y ∷ []) = ⊥
IsNotTwo (x ∷ y ∷ z ∷ xs) = Unit {0}
