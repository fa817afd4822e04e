-- A package: files with distinct names, in byte order of the names, within the limits.
use Rattle.std.specs.Prelude.{◌≡◌, ℕ, ◌≤◌, List, [], ◌∷◌, length, sum_by}
use Rattle.std.specs.declared.cmp.Ordering.TheVariants.{Less}
use Rattle.std.specs.List.{AllByRecursion}
use Rattle.std.specs.Ordering.{nat_cmp}
use Rattle.std.specs.Cmp.Lexicographic.{slice_cmp}
use Rattle.go_base.specs.declared.bytes.FileText.{FileText}

-- the most files of a package
abbrev pub most_files : ℕ
most_files = 256

-- the most bytes of its files together
abbrev pub most_bytes : ℕ
most_bytes = 1048576

-- one name comes before another, by their bytes
abbrev pub ComesBefore : List ℕ → List ℕ → Type 0
ComesBefore first second = slice_cmp nat_cmp first second ≡ Less

-- each name comes before all the later ones
abbrev pub Ascends : List FileText → Type 0
Ascends [] = Unit {0}
Ascends (f ∷ fs) = AllByRecursion (λ g. ComesBefore f.name g.name) fs × Ascends fs

abbrev pub total_bytes : List FileText → ℕ
total_bytes files = sum_by (λ f. length f.bytes) files

pub record IsPackage (files : List FileText) : Type 0 where
  pub ascends : Ascends files
  pub few : length files ≤ most_files
  pub small : total_bytes files ≤ most_bytes
