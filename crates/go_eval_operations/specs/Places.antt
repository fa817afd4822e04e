-- Where the items of a range clause stand.
use Rattle.std.specs.Prelude.{◌≡◌, ◌≤◌, ℕ, if◌then◌else◌, List, [], ◌∷◌, Option, Some, None, drop, length, slice_get}
use Rattle.std.specs.Str.{chars, is_utf8}
use Rattle.go_meaning.specs.Values.{Value, text_of}
use Rattle.go_meaning.specs.Operations.{Items, Fixed, Elements, Cells, Runes, Numbers}
use Rattle.go_meaning.specs.Texts.{runes_from, runes_of}

-- The runes of the string from this one on are those of the bytes from the place on.
abbrev pub IsRunePlace : List ℕ → (number place : ℕ) → Type 0
IsRunePlace bytes number place = (place ≤ length bytes) × (runes_from place 0 (drop place bytes) ≡ drop number (runes_of bytes))

-- The item of this number begins at the place: that of a string at the byte, the others have none.
abbrev pub IsPlace : Items → Value → (number place : ℕ) → Type 0
IsPlace (Fixed n) v number place = Unit {0}
IsPlace Elements v number place = Unit {0}
IsPlace Cells v number place = Unit {0}
IsPlace Runes v number place = IsRunePlace (text_of v) number place
IsPlace Numbers v number place = Unit {0}

-- the values that an item consists of
abbrev pub item_values : Value → Option Value → List Value
item_values u None = u ∷ []
item_values u (Some v) = u ∷ v ∷ []

-- the rune of bytes that are the UTF-8 of one or more
abbrev pub rune_told : List ℕ → Option ℕ
rune_told bytes = if is_utf8 bytes then slice_get (chars bytes) 0 else None
