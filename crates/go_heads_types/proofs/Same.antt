-- Declarations of two packages at one place of the heads.
use Rattle.std.specs.Prelude.{◌≡◌, ℕ, List, [], ◌∷◌, Option, Some, None}
use Rattle.go_tree.specs.Declarations.{Found}
use Rattle.go_tree.specs.Meanings.{Meaning}
use Rattle.go_tree.specs.Needs.{Needed}
use Rattle.go_tree.specs.Uses.{uses, object_of}
use Rattle.go_heads.specs.Heads.{File}
use Rattle.go_package_defs.specs.Sources.{number_in}
use Rattle.go_heads.specs.Objects.{units_of}
use Rattle.go_heads.specs.Lookups.{AtOnePlace}

-- the number of the object of the package that it declares, if it does
abbrev pub number_by : List File → Found → Option ℕ
number_by fs d = number_in (object_of (uses (units_of fs)) d.file d.it.name)

module _ (old new : List File) where
  abbrev pub SameSource : ℕ → Option ℕ → Option ℕ → Type 0
  SameSource n None None = Unit {0}
  SameSource n (Some s) (Some t) = AtOnePlace old new n s t
  SameSource n _ _ = ⊥

  -- They stand outside of bodies, with their specifications, and declare the object of one number.
  pub record SameFound (d e : Found) : Type 0 where
    pub file : e.file ≡ d.file
    pub name : AtOnePlace old new d.file d.it.name e.it.name
    pub source : SameSource d.file d.it.source e.it.source
    pub column : e.it.column ≡ d.it.column
    pub number : number_by new e ≡ number_by old d

  abbrev pub SameSources : Option Found → Option Found → Type 0
  SameSources None None = Unit {0}
  SameSources (Some d) (Some e) = SameFound d e
  SameSources _ _ = ⊥

  pub record SameNeed (x y : Needed) : Type 0 where
    pub it : SameFound x.it y.it
    pub full : y.full ≡ x.full

  abbrev pub SameNeeds : List Needed → List Needed → Type 0
  SameNeeds [] [] = Unit {0}
  SameNeeds (x ∷ xs) (y ∷ ys) = SameNeed x y × SameNeeds xs ys
  SameNeeds _ _ = ⊥

-- the declaration of a meaning
abbrev pub declaration_of : Option Meaning → Option Found
declaration_of None = None
declaration_of (Some m) = m.source

-- What they need at once is the same: they stand in files of one number, in one specification and one column, and are needed in one way.
pub record SameSeeking (old new : List File) (x y : Needed) : Type 0 where
  pub file : y.it.file ≡ x.it.file
  pub source : SameSource old new x.it.file x.it.it.source y.it.it.source
  pub column : y.it.it.column ≡ x.it.it.column
  pub full : y.full ≡ x.full

pub seeking : (old new : List File) (x y : Needed) → SameNeed old new x y → SameSeeking old new x y
seeking old new x y h = record { file = h.it.file; source = h.it.source; column = h.it.column; full = h.full }
