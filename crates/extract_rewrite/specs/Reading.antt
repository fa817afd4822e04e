-- What the program reads of the files of a package, and what it says of them.
use Rattle.std.specs.Prelude.{◌≡◌, ℕ, Bool, true, false, List, length, Option, Some, None}
use Rattle.go_base.specs.declared.bytes.FileText.{FileText}
use Rattle.go_tree.specs.Branches.{statements}
use Rattle.go_tree.specs.File.{FileTree}
use Rattle.go_package_defs.specs.Checked.{IsRead, AreRead}
use Rattle.go_package_defs.specs.Sources.{source_of, unit_of}
use Rattle.extract_rewrite.specs.Limits.{HasNoTree, IsWithinLimits, PassesLimits, statements_in}

-- how many statements are told of the file of this number
abbrev pub statement_count : ℕ → FileTree → ℕ
statement_count n f = length (statements n f.tokens (unit_of (source_of f)).events)

-- a file of a text, if both are there
abbrev pub IsReadThere : ℕ → Option FileText → Option FileTree → Type 0
IsReadThere n (Some x) (Some f) = IsRead n x f
IsReadThere n x f = Unit {0}

-- the file of a text; or none, where the text has no such file
abbrev pub IsReadOrNone : ℕ → FileText → Option FileTree → Type 0
IsReadOrNone n x (Some f) = IsRead n x f
IsReadOrNone n x None = (f : FileTree) → IsRead n x f → ⊥

-- how many statements the file of a text has; or none, where the text has no such file
abbrev pub IsCounted : ℕ → FileText → Option ℕ → Type 0
IsCounted n x (Some k) = (f : FileTree) × IsRead n x f × (k ≡ statement_count n f)
IsCounted n x None = (f : FileTree) → IsRead n x f → ⊥

-- the same of all files
abbrev pub AreCounted : List FileText → Option ℕ → Type 0
AreCounted xs (Some k) = (fs : List FileTree) × AreRead 0 xs fs × (k ≡ length (statements_in fs))
AreCounted xs None = HasNoTree xs

-- whether a package is within the limits
abbrev pub Judges : Bool → List FileText → Type 0
Judges true xs = IsWithinLimits xs
Judges false xs = PassesLimits xs
