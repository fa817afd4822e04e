-- What names stand for: the objects of a package, and the locals of a function.
use Rattle.std.specs.Prelude.{◌≡◌, ℕ, ◌<◌, List, Option, Some, None, slice_get}
use Rattle.go_typed.specs.declared.form.Referent.{Referent}
use Rattle.go_typed.specs.Trees.{Sort, SortHas}

-- by the numbers of the objects of the package
pub record EnvView : Type 0 where
  pub objects : List (Sort ℕ)
  pub referents : List Referent

-- by the numbers of the locals of the function
pub record LocalsView : Type 0 where
  pub sorts : List (Option (Sort ℕ))
  pub iota : ℕ

-- The types of the locals are among the first n of a table.
abbrev pub KnownLocals : ℕ → LocalsView → Type 0
KnownLocals n ls = (k : ℕ) (x : Sort ℕ) → slice_get ls.sorts k ≡ Some (Some x) → SortHas (λ t. t < n) x

-- the sort of a local, if it has one so far
abbrev pub local_sort : Option (Option (Sort ℕ)) → Option (Sort ℕ)
local_sort None = None
local_sort (Some s) = s
