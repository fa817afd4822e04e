-- The places of the elements of a literal.
use Rattle.std.specs.Prelude.{ℕ, List, ◌∷◌, Option, Some, None}
use Rattle.go_types.specs.Trees.{TypeTree}
use Rattle.go_typed.specs.declared.node.TypedNode.{TypedNode}
use Rattle.go_typed.specs.Trees.{mapped, form_of}
use Rattle.go_typed.specs.Views.{view}
use Rattle.go_meaning.specs.Planning.{place_of}

-- the place of an element that is there, the next one being k
abbrev pub place_there : (ℕ → TypeTree) → Option TypedNode → ℕ → Option ℕ
place_there f None k = None
place_there f (Some x) k = Some (place_of (form_of (mapped f (view x))) k)

abbrev pub with_place : Option ℕ → List ℕ → List ℕ
with_place None ps = ps
with_place (Some p) ps = p ∷ ps
