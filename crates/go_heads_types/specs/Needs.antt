-- What declarations need, in packages with equal heads.
use Rattle.std.specs.Prelude.{◌≡◌, ℕ, Bool, List}
use Rattle.go_heads.specs.Heads.{File}
use Rattle.go_package_defs.specs.Sources.{Package, needed_at}
use Rattle.go_heads.specs.Lookups.{AtOnePlace}

-- The names that are declared at one place of the heads need the same objects, by the same numbers.
pub record KeepsNeeds (p q : Package) (old new : List File) : Type 0 where
  pub needed : (n t u : ℕ) → AtOnePlace old new n t u → (column : ℕ) (full : Bool) → needed_at q n u column full ≡ needed_at p n t column full
