-- The nodes of a tree by number: where each stands, and which of them are statement lists.
use Rattle.std.specs.Prelude.{◌≡◌, ℕ, suc, ◌+◌, if◌then◌else◌, List, [], ◌∷◌, ◌++◌, Option, Some, None}
use Rattle.go_typed.specs.declared.node.TypedNode.{TypedNode}
use Rattle.go_typed.specs.declared.node_table.NodeTable.{NodeTable}
use Rattle.go_typed.specs.declared.node_table.PartPlace.{PartPlace}
use Rattle.go_typed.specs.Forms.{is_statement_list}
use Rattle.go_typed.specs.Funcs.{size}
use Rattle.go_typed.specs.Trees.{Typed, typed, Typeds, none, more, skip, form_of}
use Rattle.go_typed.specs.Views.{view}

abbrev mutual
  -- The places of the nodes within a node of some number, in order: of each the number of the node above and the place among
  -- its parts.
  pub inner_places : {T : Type 0} → ℕ → Typed T → List PartPlace
  inner_places number (typed f i j l ps) = part_places number 0 (suc number) ps

  -- those of parts of a node, the first of which has a place among all its parts and a number
  pub part_places : {T : Type 0} → ℕ → ℕ → ℕ → Typeds T → List PartPlace
  part_places above part number none = []
  part_places above part number (more p ps) =
      record { above = above; part = part } ∷ inner_places number p ++ part_places above (suc part) (number + size p) ps
  part_places above part number (skip ps) = part_places above (suc part) number ps

-- the number of a node, if it is a statement list
abbrev pub own_number : {T : Type 0} → ℕ → Typed T → List ℕ
own_number number x = if is_statement_list (form_of x) then number ∷ [] else []

abbrev mutual
  -- the numbers of the statement lists of a tree, whose first node has this number
  pub list_numbers : {T : Type 0} → ℕ → Typed T → List ℕ
  list_numbers number (typed f i j l ps) = own_number number (typed f i j l ps) ++ numbers_among (suc number) ps

  pub numbers_among : {T : Type 0} → ℕ → Typeds T → List ℕ
  numbers_among number none = []
  numbers_among number (more p ps) = list_numbers number p ++ numbers_among (number + size p) ps
  numbers_among number (skip ps) = numbers_among number ps

-- a part, where there is a place for it
abbrev pub part_there : {A : Type 0} → Option (Option A) → Option A
part_there None = None
part_there (Some o) = o

-- The table has the places of all nodes of the tree but the first, and the numbers of its statement lists.
pub record IsTableOf (x : Typed ℕ) (t : NodeTable) : Type 0 where
  pub places : t.places.items ≡ inner_places 0 x
  pub lists : t.lists.items ≡ list_numbers 0 x

-- the same, of the tree that a node holds
abbrev pub IsNodeTable : TypedNode → NodeTable → Type 0
IsNodeTable n t = IsTableOf (view n) t
