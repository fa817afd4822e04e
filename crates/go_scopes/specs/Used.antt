-- Where the variables are declared that are used, and which files use their imports.
use Rattle.std.specs.Prelude.{ℕ, ◌≡◌, Bool, true, false, ◌&&◌, ◌||◌, not, nat_eq, List, Option, Some, None}
use Rattle.std.specs.HashSet.{HashSet}
use Rattle.std.specs.HashSet as set
use Rattle.go_tree.specs.Declarations.{Found}
use Rattle.go_tree.specs.Meanings.{Meaning}
use Rattle.go_tree.specs.Lookups.{Asked, object_asked, is_assigned, means, is_used, is_import, uses_import}
use Rattle.go_scopes_lookup.specs.Tables.{same_spot}

abbrev pub source_spot : Option Found → Option (ℕ × ℕ)
source_spot None = None
source_spot (Some d) = Some (d.file, d.it.name)

abbrev pub meaning_spot : Option Meaning → Option (ℕ × ℕ)
meaning_spot None = None
meaning_spot (Some m) = source_spot m.source

abbrev pub unless : Bool → Option (ℕ × ℕ) → Option (ℕ × ℕ)
unless true p = None
unless false p = p

-- where the variable is declared that a name uses
abbrev pub used_spot : Asked → Option (ℕ × ℕ)
used_spot a = unless (is_assigned a.it.role) (meaning_spot a.meaning)

-- whether a name uses the declaration
abbrev pub uses : Found → Asked → Bool
uses d a = means d a.meaning && not (is_assigned a.it.role)

-- Of the places, the second ones have also that of the declaration that the name uses.
abbrev pub AddsUse : {S : Type 0} → HashSet (ℕ × ℕ) S → HashSet (ℕ × ℕ) S → Asked → Type 0
AddsUse old new a = (d : Found) → set.contains same_spot new (d.file, d.it.name) ≡ (uses d a || set.contains same_spot old (d.file, d.it.name))

-- The places are those of the declarations that some names use.
abbrev pub AreUsed : {S : Type 0} → HashSet (ℕ × ℕ) S → List Asked → Type 0
AreUsed places asks = (d : Found) → set.contains same_spot places (d.file, d.it.name) ≡ is_used d asks

-- Of the files, the second ones have also that whose import the name means.
abbrev pub AddsImport : {S : Type 0} → HashSet ℕ S → HashSet ℕ S → Asked → Type 0
AddsImport old new a = (n : ℕ) → set.contains nat_eq new n ≡ ((nat_eq a.file n && is_import (object_asked a)) || set.contains nat_eq old n)

-- The files are those that use their imports.
abbrev pub UseImports : {S : Type 0} → HashSet ℕ S → List Asked → Type 0
UseImports files asks = (n : ℕ) → set.contains nat_eq files n ≡ uses_import n asks
