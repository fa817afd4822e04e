-- What the values of a range clause are, in a table of types.
use Rattle.std.specs.Prelude.{ℕ, ◌<◌, List, [], ◌∷◌}
use Rattle.go_types.specs.Trees.{TypeTree}
use Rattle.go_types.specs.Tables.{Table, type_of}
use Rattle.go_stmts_rules.specs.declared.ranges.Pair.{Pair}

abbrev pub pair_seen : Table → Pair → List TypeTree
pair_seen t p = type_of t.shapes p.first ∷ type_of t.shapes p.second ∷ []

abbrev pub KnownPair : ℕ → Pair → Type 0
KnownPair n p = (p.first < n) × (p.second < n)
