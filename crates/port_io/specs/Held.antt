-- The files that a folder holds, under each folder's text.
use Rattle.std.specs.Prelude.{◌≡◌, ◌≢◌, ℕ, List, Option, Some, None, if◌then◌else◌}
use Rattle.std.specs.Ordering.{nat_cmp}
use Rattle.std.specs.Cmp.Lexicographic.{slice_cmp}
use Rattle.std.specs.Str.{bytes_eq}
use Rattle.std.specs.FinMap as map

-- the files of one folder: from a name to its bytes, in byte order of the names
abbrev pub Files : Type 0
Files = map.FinMap (slice_cmp nat_cmp) (List ℕ)

-- from a folder's text to its files
abbrev pub Held : Type 0
Held = List ℕ → Files

-- the files under the chosen text, where they are told and a text is chosen
abbrev pub files_under : Option Held → Option (List ℕ) → Option Files
files_under None chosen = None
files_under (Some held) None = None
files_under (Some held) (Some text) = Some (held text)

-- the same with these bytes under the name in the folder with this text
abbrev pub with_file : Held → List ℕ → List ℕ → List ℕ → Held
with_file held text name bytes = λ other. if bytes_eq other text then map.insert (held other) name bytes else held other

-- All stays but what is held under the name in the folder with this text.
pub record KeepsOthers (old new : Held) (text name : List ℕ) : Type 0 where
  pub folders : (other : List ℕ) → other ≢ text → new other ≡ old other
  pub names : (other : List ℕ) → other ≢ name → map.get (new text) other ≡ map.get (old text) other
