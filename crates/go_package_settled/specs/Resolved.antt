-- Packages from trees on: what their names tell, and what their specifications tell of them.
use Rattle.std.specs.Prelude.{◌≡◌, ℕ, true, false, ◌⊎◌, if◌then◌else◌, List, [], ◌∷◌, length, Option, Some, slice_get}
use Rattle.go_tree.specs.Contexts.{is_package}
use Rattle.go_tree.specs.Declarations.{Found, declarations}
use Rattle.go_tree.specs.Needs.{needs}
use Rattle.go_tree.specs.Units.{Unit}
use Rattle.go_tree.specs.Uses.{IsComplete, uses}
use Rattle.go_scopes_events.specs.Scopes.{AreOrderly}
use Rattle.go_package_defs.specs.Knowledge.{Outline, is_type}
use Rattle.go_package_defs.specs.Resolved.{IsOrdered}
use Rattle.go_package_defs.specs.Sources.{Package}
use Rattle.go_package_settled.specs.Closure.{as_needed, needing}
use Rattle.go_package_settled.specs.Ordered.{NeedsNamed}

abbrev pub IsIn : Found → List Found → Type 0
IsIn x [] = ⊥
IsIn x (d ∷ ds) = (x ≡ d) ⊎ IsIn x ds

-- the declarations of the package block, in order
abbrev pub package_declarations : List Found → List Found
package_declarations [] = []
package_declarations (d ∷ ds) = if is_package d.it.block then d ∷ package_declarations ds else package_declarations ds

-- the declaration of the object of this number
abbrev pub declared_in : List Unit → ℕ → Option Found
declared_in us n = slice_get (package_declarations (declarations us)) n

-- The names of a package are free of faults: each token has its object, and no declaration needs itself.
pub record AreResolved (us : List Unit) : Type 0 where
  pub orderly : AreOrderly us
  pub complete : IsComplete (uses us)
  pub order : IsOrdered us

-- One that is no type needs the same in full and in part; and each needs what its specification names.
pub record NeedsAreNamed (p : Package) (os : List Outline) (declared : ℕ → Option Found) : Type 0 where
  pub whole : (n : ℕ) (o : Outline) (d : Found) → slice_get os n ≡ Some o → declared n ≡ Some d → is_type o.specification.entity ≡ false → needs p.asked (as_needed d true) ≡ needs p.asked (as_needed d false)
  pub named : (n : ℕ) (o : Outline) → slice_get os n ≡ Some o → NeedsNamed (needing p os declared (length os)) p n o (is_type o.specification.entity)

-- Of each object of a package its specification tells as which of its names it declares it, and whether it is a type; and what it needs.
pub record SpecificationsTell (p : Package) (os : List Outline) (declared : ℕ → Option Found) : Type 0 where
  pub column : (n : ℕ) (o : Outline) (d : Found) → slice_get os n ≡ Some o → declared n ≡ Some d → o.column ≡ d.it.column
  pub entity : (n : ℕ) (o : Outline) (d : Found) → slice_get os n ≡ Some o → declared n ≡ Some d → is_type o.specification.entity ≡ is_type d.it.entity
  pub needs : NeedsAreNamed p os declared
