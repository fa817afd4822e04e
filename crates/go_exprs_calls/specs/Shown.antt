-- The typed nodes that references lead to, in a table of types.
use Rattle.std.specs.Prelude.{ℕ, List, [], ◌∷◌}
use Rattle.std.specs.Borrow.{Bor}
use Rattle.go_types.specs.Tables.{Table}
use Rattle.go_typed.specs.declared.node.TypedNode.{TypedNode}
use Rattle.go_typed.specs.Views.{seen, Known}
use Rattle.go_exprs_rules.specs.Settling.{Part}

abbrev pub shown : Table → List (Bor TypedNode) → List Part
shown t [] = []
shown t (n ∷ ns) = seen t n.now ∷ shown t ns

-- The types in them are among the first k of a table.
abbrev pub AllShownKnown : ℕ → List (Bor TypedNode) → Type 0
AllShownKnown k [] = Unit {0}
AllShownKnown k (n ∷ ns) = Known k n.now × AllShownKnown k ns
