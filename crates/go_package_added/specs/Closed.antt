-- Packages of which the declarations in the package block need no others.
use Rattle.std.specs.Prelude.{◌≡◌, ℕ, Bool, true, List, Some}
use Rattle.std.specs.List.{AllByRecursion}
use Rattle.go_tree.specs.Contexts.{is_package}
use Rattle.go_tree.specs.Declarations.{Found, declarations, found}
use Rattle.go_tree.specs.Needs.{Needed, needs}
use Rattle.go_tree.specs.Units.{Unit}
use Rattle.go_heads_added.specs.Kept.{looked_up}
use Rattle.go_package_defs.specs.Sources.{declared_at}
use Rattle.go_package_settled.specs.Resolved.{IsIn, package_declarations}

-- what is needed is declared in the package block
abbrev pub IsShared : List Unit → Needed → Type 0
IsShared us x = IsIn x.it (package_declarations (declarations us))

-- the declaration, with another column, as it is needed
abbrev pub in_column : Found → ℕ → Bool → Needed
in_column d column full = record { it = record d { it = record d.it { column = column } }; full = full }

-- What a declaration of the package block needs at once is declared in the package block, in whichever column it stands.
pub record NeedsStayShared (us : List Unit) : Type 0 where
  pub next : (x : Needed) → IsShared us x → AllByRecursion (IsShared us) (needs (looked_up us) x)
  pub at_first : (m t : ℕ) (d : Found) → declared_at m t (found us) ≡ Some d → is_package d.it.block ≡ true → (column : ℕ) (full : Bool)
      → AllByRecursion (IsShared us) (needs (looked_up us) (in_column d column full))

-- the token declares nothing but in the package block
abbrev pub DeclaresShared : List Unit → ℕ → ℕ → Type 0
DeclaresShared us m t = (d : Found) → declared_at m t (found us) ≡ Some d → is_package d.it.block ≡ true
