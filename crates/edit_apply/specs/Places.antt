-- Where a name stands in a package.
use Rattle.std.specs.Prelude.{◌≡◌, ℕ, ◌<◌, ◌≤◌, List, length}
use Rattle.std.specs.List.{AllWithin, HoldsAt}
use Rattle.go_base.specs.declared.bytes.FileText.{FileText}
use Rattle.go_base.specs.Package.{ComesBefore}

-- the file at the place has the name
pub record IsAt (files : List FileText) (name : List ℕ) (place : ℕ) : Type 0 where
  pub within : place < length files
  pub named : HoldsAt (λ f. f.name ≡ name) files place

-- no file has the name: it comes behind the files before the place, and before the others
pub record IsGap (files : List FileText) (name : List ℕ) (place : ℕ) : Type 0 where
  pub within : place ≤ length files
  pub before : AllWithin (λ f. ComesBefore f.name name) files 0 place
  pub after : AllWithin (λ f. ComesBefore name f.name) files place (length files)
