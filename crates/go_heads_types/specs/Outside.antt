-- What tokens outside the bodies of functions mean, in packages with equal heads.
use Rattle.std.specs.Prelude.{◌≡◌, ℕ, List}
use Rattle.go_tree.specs.Uses.{uses, object_of}
use Rattle.go_heads.specs.Heads.{File}
use Rattle.go_package_defs.specs.Bodies.{own_object}
use Rattle.go_heads.specs.Objects.{units_of}
use Rattle.go_heads.specs.Lookups.{AtOnePlace}

-- Two tokens at one place of the heads have the same object: of the package, predeclared, fmt, or the parameter of one number of some
-- function; or both have none.
pub record KeepsOutside (old new : List File) : Type 0 where
  pub objects : (n t u : ℕ) → AtOnePlace old new n t u → own_object (object_of (uses (units_of new)) n u) ≡ own_object (object_of (uses (units_of old)) n t)
