-- Tables with more types.
use Rattle.std.specs.Prelude.{◌≡◌, ℕ, List, ◌++◌}
use Rattle.go_types.specs.declared.shape.Shape.{Shape}
use Rattle.go_types.specs.Tables.{Table, IsTable, HasRightId, rights_of}

-- The old shapes and the old right sides stay.
pub record Extends (old new : Table) : Type 0 where
  pub added : List Shape
  pub shapes : new.shapes ≡ old.shapes ++ added
  pub rights : (n r : ℕ) → HasRightId old n r → HasRightId new n r

-- So do they, nothing is declared or defined, and the new one is a table.
pub record Grows (old new : Table) : Type 0 where
  pub extends : Extends old new
  pub rights : rights_of new ≡ rights_of old
  pub table : IsTable new
