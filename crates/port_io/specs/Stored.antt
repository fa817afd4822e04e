-- What the files of an object in memory hold. The newest write comes first.
use Rattle.std.specs.Prelude.{ℕ, List, [], ◌∷◌, ◌++◌, Option, string_bytes, if◌then◌else◌}
use Rattle.std.specs.Option.{option_map}
use Rattle.std.specs.Str.{bytes_eq}
use Rattle.std.specs.List.{list_any}
use Rattle.std.specs.FinMap as map
use Rattle.std.specs.declared.string.String.{String}
use Rattle.std.specs.declared.alloc.Global.{Global}
use Rattle.port_io.specs.declared.store.Stored.{Stored}
use Rattle.port_io.specs.Held.{Held}

-- the names and the bytes under a folder's text
abbrev pub stored_under : List ℕ → List Stored → List (List ℕ × List ℕ)
stored_under text [] = []
stored_under text (s ∷ ss) = if bytes_eq text (string_bytes s.folder) then (s.name, s.bytes) ∷ stored_under text ss else stored_under text ss

abbrev pub held_by : List Stored → Held
held_by ss = λ text. map.from_entries (stored_under text ss)

abbrev pub chosen_text : Option (String Global) → Option (List ℕ)
chosen_text chosen = option_map string_bytes chosen

-- the names with one at their end, unless it is among them
abbrev pub with_name : List (List ℕ) → List ℕ → List (List ℕ)
with_name names name = if list_any (λ n. bytes_eq n name) names then names else names ++ name ∷ []
