-- The trees that the nodes of the program hold.
use Rattle.std.specs.Prelude.{ℕ, zero, suc, ◌≤◌, Bool, true, false, if◌then◌else◌, ◌||◌, List, [], ◌∷◌, Option, Some, None, map}
use Rattle.std.specs.Option.{option_map}
use Rattle.go_grammar.specs.Trees.{Tree, node, Trees, none, more, skip, kind_of, first, last}
use Rattle.go_grammar.specs.Grammar.{is_name, is_parameter}
use Rattle.go_tree.specs.declared.node.Node.{Node}
use Rattle.go_tree.specs.declared.node.Node.TheOpen.{Node-F}
use Rattle.go_tree.specs.declared.node.Node.TheFolds.{fold-Node}

abbrev pub row : List (Option Tree) → Trees
row [] = none
row (None ∷ ps) = skip (row ps)
row (Some p ∷ ps) = more p (row ps)

abbrev pub view_step : Node-F Tree → Tree
view_step n = node n.kind n.first n.last (row n.parts.items)

-- the tree that a node of the program holds
abbrev pub view : Node → Tree
view = fold-Node Tree view_step

-- the trees of a row of parts
abbrev pub views : List (Option Node) → Trees
views ns = row (map (option_map view) ns)

-- tests of one part
abbrev pub named_at : Option Node → Bool
named_at None = false
named_at (Some n) = is_name (kind_of (view n))

abbrev pub typed_at : Option Node → Bool
typed_at None = false
typed_at (Some n) = if is_parameter (kind_of (view n)) then false else true

abbrev pub entry_at : Option Node → Bool
entry_at None = false
entry_at (Some n) = is_name (kind_of (view n)) || is_parameter (kind_of (view n))

abbrev pub parameter_at : Option Node → Bool
parameter_at None = false
parameter_at (Some n) = is_parameter (kind_of (view n))

-- the part of this number, from 0; a part that is left out has its number
abbrev pub part_at : Trees → ℕ → Option Tree
part_at none n = None
part_at (more p ps) zero = Some p
part_at (skip ps) zero = None
part_at (more p ps) (suc n) = part_at ps n
part_at (skip ps) (suc n) = part_at ps n

-- what a place that may be absent holds
abbrev pub flat : Option (Option Tree) → Option Tree
flat None = None
flat (Some p) = p

-- the parts behind the first
abbrev pub behind_first : Trees → Trees
behind_first none = none
behind_first (more p ps) = ps
behind_first (skip ps) = ps

-- The parts lie one after the other from the token i up to j: each begins where the one before ends, or behind that.
abbrev pub Tiles : ℕ → ℕ → Trees → Type 0
Tiles i j none = i ≤ j
Tiles i j (more p ps) = (i ≤ first p) × (first p ≤ last p) × Tiles (last p) j ps
Tiles i j (skip ps) = Tiles i j ps
