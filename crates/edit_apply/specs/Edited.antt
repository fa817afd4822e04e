-- A package after an edit.
use Rattle.std.specs.Prelude.{ℕ, zero, suc, not, List, [], ◌∷◌, ◌++◌, take, drop, map, filter, Option, Some, None, if◌then◌else◌}
use Rattle.std.specs.Ordering.{nat_cmp, is_lt}
use Rattle.std.specs.Cmp.Lexicographic.{slice_cmp}
use Rattle.std.specs.Str.{bytes_eq}
use Rattle.go_base.specs.declared.bytes.FileText.{FileText}

-- the bytes of the file of that name
abbrev pub bytes_under : List FileText → List ℕ → Option (List ℕ)
bytes_under [] name = None
bytes_under (f ∷ fs) name = if bytes_eq f.name name then Some f.bytes else bytes_under fs name

-- the bytes before the start, the new ones, and the bytes from the end on
abbrev pub spliced : List ℕ → ℕ → ℕ → List ℕ → List ℕ
spliced bytes start end new = take start bytes ++ new ++ drop end bytes

abbrev pub file_of : List ℕ → List ℕ → FileText
file_of name bytes = record { name = name; bytes = bytes }

-- the file of that name is edited, and all others stay
abbrev pub edited : List FileText → List ℕ → ℕ → ℕ → List ℕ → List FileText
edited files name start end new = map (λ f. if bytes_eq f.name name then file_of f.name (spliced f.bytes start end new) else f) files

-- one more file, in byte order of the names
abbrev pub added : List FileText → List ℕ → List ℕ → List FileText
added [] name bytes = file_of name bytes ∷ []
added (f ∷ fs) name bytes = if is_lt (slice_cmp nat_cmp name f.name) then file_of name bytes ∷ f ∷ fs else f ∷ added fs name bytes

-- the file of that name is taken out, and all others stay
abbrev pub dropped : List FileText → List ℕ → List FileText
dropped files name = filter (λ f. not (bytes_eq f.name name)) files

-- the file at the place has these bytes, and all others stay
abbrev pub with_bytes : List FileText → ℕ → List ℕ → List FileText
with_bytes [] place bytes = []
with_bytes (f ∷ fs) zero bytes = file_of f.name bytes ∷ fs
with_bytes (f ∷ fs) (suc place) bytes = f ∷ with_bytes fs place bytes
