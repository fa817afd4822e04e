-- Integer, rune and string literals (Go specification: Integer literals, Rune literals, String literals).
use Rattle.std.specs.Prelude.{◌≡◌, ◌≤◌, ℕ, zero, suc, ◌+◌, ◌-◌, ◌*◌, ◌<◌, Bool, true, false, not, ◌&&◌, ◌||◌, ◌==◌, nat_lt, nat_le, if◌then◌else◌, List, [], ◌∷◌, ◌++◌, length, take, drop, Option, Some, None, is_some}
use Rattle.std.specs.Option.{option_map, option_and_then}
use Rattle.std.specs.Char.{digit_value, encode_utf8}
use Rattle.go_tokens.specs.declared.literal.Element.{Element}
use Rattle.go_tokens.specs.declared.literal.Escape.{Escape}
use Rattle.go_tokens.specs.declared.literal.Element.TheVariants.{Character, Byte}
use Rattle.go_tokens.specs.Characters.{is_digit, is_x, is_b, is_o}

-- Integers.

-- whether a character is a digit to a base: 0 to 9, and letters from a
unfoldable pub is_digit_of : ℕ → ℕ → Bool
is_digit_of base x = nat_lt (digit_value x) base

-- Digits, with a single `_` before any of them.
abbrev pub grouped : ℕ → List ℕ → Bool
grouped base [] = true
grouped base (x ∷ []) = is_digit_of base x
grouped base (x ∷ y ∷ ys) = if x == 95 then is_digit_of base y && grouped base ys else is_digit_of base x && grouped base (y ∷ ys)

-- the base that a letter behind a 0 gives, or 0
unfoldable pub letter_base : ℕ → ℕ
letter_base y = if is_x y then 16 else (if is_b y then 2 else (if is_o y then 8 else 0))

-- The prefix is 0x, 0b or 0o, or a 0 before more digits.
abbrev pub base_of : List ℕ → ℕ
base_of [] = 10
base_of (x ∷ []) = 10
base_of (x ∷ y ∷ ys) = if x == 48 then (if letter_base y == 0 then 8 else letter_base y) else 10

abbrev pub digits_of : List ℕ → List ℕ
digits_of [] = []
digits_of (x ∷ []) = x ∷ []
digits_of (x ∷ y ∷ ys) = if x == 48 then (if letter_base y == 0 then y ∷ ys else ys) else x ∷ y ∷ ys

abbrev pub begins_with_digit : List ℕ → Bool
begins_with_digit [] = false
begins_with_digit (x ∷ xs) = is_digit x

abbrev pub is_empty : List ℕ → Bool
is_empty [] = true
is_empty (x ∷ xs) = false

-- whether a run is an integer literal
abbrev pub is_integer : List ℕ → Bool
is_integer p = begins_with_digit p && (not (is_empty (digits_of p)) && grouped (base_of p) (digits_of p))

-- the number that digits mean behind a number
abbrev pub digits_value : ℕ → ℕ → List ℕ → ℕ
digits_value base n [] = n
digits_value base n (x ∷ xs) = if x == 95 then digits_value base n xs else digits_value base (n * base + digit_value x) xs

-- the value of an integer literal, a whole number without a bound
abbrev pub integer_value : List ℕ → ℕ
integer_value p = digits_value (base_of p) 0 (digits_of p)

-- Runes and strings.

-- the number that digits mean behind a number; None: one is no digit
abbrev pub digits_number : ℕ → ℕ → List ℕ → Option ℕ
digits_number base n [] = Some n
digits_number base n (x ∷ xs) = if is_digit_of base x then digits_number base (n * base + digit_value x) xs else None

-- this many digits to a base
abbrev pub number : ℕ → ℕ → List ℕ → Option ℕ
number base count xs = if nat_lt (length xs) count then None else digits_number base 0 (take count xs)

-- What stands behind a backslash, and how many characters it has. An octal or \x escape is a byte, \u and \U a character.
abbrev pub byte_escape : ℕ → Option ℕ → Option Escape
byte_escape n None = None
byte_escape n (Some value) = if nat_le value 255 then Some (record { element = Byte value; count = n }) else None

-- a code point, neither a surrogate nor above 10FFFF
unfoldable pub is_code_point : ℕ → Bool
is_code_point value = nat_lt value 0xD800 || (nat_le 0xE000 value && nat_le value 0x10FFFF)

abbrev pub character_escape : ℕ → Option ℕ → Option Escape
character_escape n None = None
character_escape n (Some value) = if is_code_point value then Some (record { element = Character value; count = n }) else None

-- the character of a letter behind a backslash; only its own quote is escaped in a literal
unfoldable pub letter_escape : ℕ → ℕ → Option ℕ
letter_escape quote y =
    if y == 97 then Some 7
    else (if y == 98 then Some 8
    else (if y == 102 then Some 12
    else (if y == 110 then Some 10
    else (if y == 114 then Some 13
    else (if y == 116 then Some 9
    else (if y == 118 then Some 11
    else (if y == 92 then Some 92
    else (if y == quote then Some quote
    else None))))))))

abbrev pub escape : ℕ → List ℕ → Option Escape
escape quote [] = None
escape quote (y ∷ ys) =
    if is_digit_of 8 y then byte_escape 3 (number 8 3 (y ∷ ys))
    else (if y == 120 then byte_escape 3 (number 16 2 ys)
    else (if y == 117 then character_escape 5 (number 16 4 ys)
    else (if y == 85 then character_escape 9 (number 16 8 ys)
    else option_map (λ c. record { element = Character c; count = 1 }) (letter_escape quote y))))

-- The characters and bytes between the quotes, of which the first `skip` characters are part of an escape before them.
-- None: a backslash begins no escape.
abbrev pub elements : ℕ → ℕ → List ℕ → Option (List Element)
elements quote skip [] = Some []
elements quote (suc skip) (x ∷ xs) = elements quote skip xs
elements quote zero (x ∷ xs) =
    if x == 92
    then option_and_then (λ e. option_map (λ es. e.element ∷ es) (elements quote e.count xs)) (escape quote xs)
    else option_map (λ es. Character x ∷ es) (elements quote zero xs)

-- what stands between the first character and the last
abbrev pub inside : List ℕ → List ℕ
inside p = take (length p - 2) (drop 1 p)

-- the characters and bytes of a rune, and of an interpreted string
abbrev pub rune_elements : List ℕ → Option (List Element)
rune_elements p = elements 39 0 (inside p)

abbrev pub string_elements : List ℕ → Option (List Element)
string_elements p = elements 34 0 (inside p)

abbrev pub is_one : Option (List Element) → Bool
is_one (Some (e ∷ [])) = true
is_one es = false

-- The first character or escape of a text has n characters.
pub record IsElementLength (quote : ℕ) (text : List ℕ) (n : ℕ) : Type 0 where
  pub some : 0 < n
  pub within : n ≤ length text
  pub rest : is_some (elements quote 0 text) ≡ is_some (elements quote 0 (drop n text))
  pub one : is_one (elements quote 0 text) ≡ (n == length text)

-- A text begins with this element, which has this many characters, the backslash of an escape among them.
pub record IsFirstElement (quote : ℕ) (text : List ℕ) (first : Escape) : Type 0 where
  pub some : 0 < first.count
  pub within : first.count ≤ length text
  pub short : first.count ≤ 10
  pub rest : elements quote 0 text ≡ option_map (λ es. first.element ∷ es) (elements quote 0 (drop first.count text))

-- The value of a rune literal: a code point, or the number of a byte.
abbrev pub element_value : Element → ℕ
element_value (Character c) = c
element_value (Byte b) = b

abbrev pub first_value : Option (List Element) → ℕ
first_value (Some (e ∷ es)) = element_value e
first_value es = 0

abbrev pub rune_value : List ℕ → ℕ
rune_value p = first_value (rune_elements p)

-- The bytes of a string literal: characters in UTF-8, and bytes as they are.
abbrev pub element_bytes : Element → List ℕ
element_bytes (Character c) = encode_utf8 c
element_bytes (Byte b) = b ∷ []

abbrev pub elements_bytes : List Element → List ℕ
elements_bytes [] = []
elements_bytes (e ∷ es) = element_bytes e ++ elements_bytes es

abbrev pub found_bytes : Option (List Element) → List ℕ
found_bytes None = []
found_bytes (Some es) = elements_bytes es

-- the bytes of a raw string: all but carriage returns
abbrev pub without_returns : List ℕ → List ℕ
without_returns [] = []
without_returns (x ∷ xs) = if x == 13 then without_returns xs else encode_utf8 x ++ without_returns xs

abbrev pub begins_raw : List ℕ → Bool
begins_raw [] = false
begins_raw (x ∷ xs) = x == 96

abbrev pub string_value : List ℕ → List ℕ
string_value p = if begins_raw p then without_returns (inside p) else found_bytes (string_elements p)
