-- The types that a function declares are locals of it, in order.
use Rattle.std.specs.Prelude.{◌≡◌, ℕ, suc, ◌≤◌, ◌⊎◌, true, List, [], ◌∷◌, Some, None, slice_get}
use Rattle.std.specs.List.{AllByRecursion}
use Rattle.go_tree.specs.declared.object.Declared.{Declared}
use Rattle.go_tree.specs.Uses.{UsesView, IsComplete, object_of, local_of}
use Rattle.go_stmts_defs.specs.Laying.{local_named}
use Rattle.go_package_defs.specs.Bodies.{which_types, locals_there}
use Rattle.go_package_defs.specs.Knowledge.{is_type}
use Rattle.go_stmts_steady.specs.Ordered.{Numbers}
use Rattle.go_package_steady.specs.Rising.{LocalsRise}

-- The tokens rise, from this one on.
abbrev pub Ascend : ℕ → List ℕ → Type 0
Ascend i [] = Unit {0}
Ascend i (t ∷ ts) = (i ≤ t) × Ascend (suc t) ts

-- The function of the number f declares a type at the token i of the file n.
pub record DeclaresType (u : UsesView) (n f i : ℕ) : Type 0 where
  pub number : ℕ
  pub local : Declared
  pub there : local_of u f number ≡ Some local
  pub file : local.file ≡ n
  pub name : local.name ≡ i
  pub type : is_type local.entity ≡ true

-- It declares one there, or the token is no local: so the blank identifier (Go specification: Blank identifier).
abbrev pub DeclaresAt : UsesView → ℕ → ℕ → ℕ → Type 0
DeclaresAt u n f i = (local_named (object_of u n i) ≡ None) ⊎ DeclaresType u n f i

-- for each token of a file the local that it names
abbrev pub locals_of_file : UsesView → ℕ → Numbers
locals_of_file u n i = local_named (object_of u n i)

abbrev pub DeclaredLocalsRise : Type 0
DeclaredLocalsRise = (u : UsesView) (n f : ℕ) (is : List ℕ) → IsComplete u → Ascend 0 is → AllByRecursion (DeclaresAt u n f) is
    → LocalsRise (locals_of_file u n) (which_types (locals_there (slice_get u.locals f))) 0 is
