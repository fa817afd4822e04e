-- The literals of constants.
use Rattle.std.specs.Prelude.{ℕ, ◌+◌, Bool, true, false, ◌&&◌, if◌then◌else◌, nat_eq, nat_le, nat_lt, List, [], ◌∷◌, ◌++◌, codes, ◌/◌, ◌%◌}
use Rattle.std.specs.Fmt.{signed_decimal}
use Rattle.go_constants.specs.declared.values.Const.{Const}
use Rattle.go_constants.specs.declared.values.Const.TheVariants as const

-- a lower-case hexadecimal digit
abbrev pub digit : ℕ → ℕ
digit d = if nat_lt d 10 then 48 + d else 87 + d

-- a byte that isn't a character of ASCII that can be seen, or a blank
abbrev pub escaped : ℕ → List ℕ
escaped b = codes "\\x" ++ digit (b / 16) ∷ digit (b % 16) ∷ []

abbrev pub is_plain : ℕ → Bool
is_plain b = nat_le 32 b && nat_le b 126

-- a byte between quotation marks
abbrev pub byte_text : ℕ → List ℕ
byte_text b = if nat_eq b 34 then codes "\\\"" else if nat_eq b 92 then codes "\\\\" else if is_plain b then b ∷ [] else escaped b

abbrev pub bytes_text : List ℕ → List ℕ
bytes_text [] = []
bytes_text (b ∷ bs) = byte_text b ++ bytes_text bs

abbrev pub boolean_text : Bool → List ℕ
boolean_text true = codes "true"
boolean_text false = codes "false"

abbrev pub literal_text : Const → List ℕ
literal_text (const.Bool b) = boolean_text b
literal_text (const.Int z rune) = signed_decimal z
literal_text (const.Text bs) = codes "\"" ++ bytes_text bs ++ codes "\""
