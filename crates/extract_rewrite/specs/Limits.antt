-- The limits of a package: on its bytes, on the levels of its trees and on its statements.
use Rattle.std.specs.Prelude.{◌≡◌, ℕ, ◌<◌, ◌≤◌, List, length, map, Some, slice_get}
use Rattle.go_base.specs.declared.bytes.FileText.{FileText}
use Rattle.go_base.specs.Package.{most_bytes, total_bytes}
use Rattle.go_tree.specs.Branches.{statements}
use Rattle.go_tree.specs.Failures.{of_files}
use Rattle.go_tree.specs.File.{FileTree}
use Rattle.go_tree.specs.Units.{Place}
use Rattle.go_package_defs.specs.Checked.{IsRead, AreRead}
use Rattle.go_package_defs.specs.Sources.{source_of, unit_of}

-- the most statements that a package has in all its statement lists
abbrev pub most_statements : ℕ
most_statements = 65536

-- the statements of all statement lists of files with trees
abbrev pub statements_in : List FileTree → List Place
statements_in files = of_files statements 0 (map unit_of (map source_of files))

-- At most so many bytes; each file has a derivation over all its tokens, with at most 100 nodes above any node; and these have at most so
-- many statements.
pub record IsWithinLimits (texts : List FileText) : Type 0 where
  pub bytes : total_bytes texts ≤ most_bytes
  pub files : List FileTree
  pub read : AreRead 0 texts files
  pub statements : length (statements_in files) ≤ most_statements

-- A file has no derivation over all its tokens with at most 100 nodes above any node.
pub record HasNoTree (texts : List FileText) : Type 0 where
  pub number : ℕ
  pub text : FileText
  pub there : slice_get texts number ≡ Some text
  pub none : (file : FileTree) → IsRead number text file → ⊥

-- The derivations of the files have more statements than a package may have.
pub record HasTooManyStatements (texts : List FileText) : Type 0 where
  pub files : List FileTree
  pub read : AreRead 0 texts files
  pub statements : most_statements < length (statements_in files)

-- There are more bytes than a package may have; or a file has no derivation within the limit on levels; or there are too many statements.
pub data PassesLimits (texts : List FileText) : Type 0 where
  past_bytes : most_bytes < total_bytes texts → PassesLimits texts
  past_levels : HasNoTree texts → PassesLimits texts
  past_statements : HasTooManyStatements texts → PassesLimits texts

-- A package is within the limits or passes one, and not both.
abbrev pub AreApartFromOthers : Type 0
AreApartFromOthers = (texts : List FileText) → IsWithinLimits texts → PassesLimits texts → ⊥
