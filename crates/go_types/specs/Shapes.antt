-- Where a shape stands in a list of shapes, and where it is put.
use Rattle.std.specs.Prelude.{◌≡◌, ℕ, ◌⊎◌, List, [], ◌∷◌, ◌++◌, Some, length, slice_get}
use Rattle.go_types.specs.declared.shape.Shape.{Shape}

-- the shape is there already, and nothing changes
pub record IsKnown (old new : List Shape) (s : Shape) (i : ℕ) : Type 0 where
  pub there : slice_get old i ≡ Some s
  pub same : new ≡ old

-- the shape isn't there, and comes last
pub record IsAdded (old new : List Shape) (s : Shape) (i : ℕ) : Type 0 where
  pub absent : (j : ℕ) → slice_get old j ≡ Some s → ⊥
  pub last : i ≡ length old
  pub longer : new ≡ old ++ s ∷ []

-- the shape gets this number
abbrev pub IsInterned : List Shape → List Shape → Shape → ℕ → Type 0
IsInterned old new s i = IsKnown old new s i ⊎ IsAdded old new s i
