-- The pieces that a text is cut into: white space, comments and tokens, well formed or not.
use Rattle.std.specs.Prelude.{◌≡◌, ◌≢◌, ℕ, ◌<◌, ◌≤◌, ◌-◌, take, drop, slice_index, Bool, true, false, not, ◌&&◌, ◌||◌, ◌==◌, if◌then◌else◌, List, [], ◌∷◌, length, Option, Some, None, is_some}
use Rattle.std.specs.Option.{option_and_then}
use Rattle.std.specs.List.{list_any}
use Rattle.go_base.specs.declared.FaultCode.{FaultCode}
use Rattle.go_base.specs.declared.FaultCode.TheVariants.{Lexical, Outside}
use Rattle.go_tokens.specs.declared.piece.PieceKind.{PieceKind}
use Rattle.go_tokens.specs.declared.piece.PieceKind.TheVariants.{White, LineComment, BlockComment, Word, Number, HexNumber, Rune, Text, RawText, Operator, Stray}
use Rattle.go_tokens.specs.declared.piece.Mode.{Mode}
use Rattle.go_tokens.specs.declared.piece.Mode.TheVariants.{InLine, Opened, InBlock, AfterStar, InWord, InRun, InHexRun, InRune, AfterRuneSlash, InText, AfterSlash, InRaw, Whole}
use Rattle.go_tokens.specs.Characters.{is_white, is_digit, is_letter, is_in_word, is_in_run, is_exponent, is_power, is_x, is_sign}
use Rattle.go_tokens.specs.Spellings.{listed, operators, outside_operators, is_outside, word_kind}
use Rattle.go_tokens.specs.Literals.{is_integer, rune_elements, string_elements, is_one}

-- the first character, or 0
abbrev pub front : List ℕ → ℕ
front [] = 0
front (x ∷ xs) = x

-- What begins with the character x, and whether it and the next open a line comment, a block comment, a number or a
-- number with the prefix 0x.
unfoldable pub begun_by : ℕ → Bool → Bool → Bool → Bool → PieceKind
begun_by x line block point hex =
    if line then LineComment
    else (if block then BlockComment
    else (if hex then HexNumber
    else (if x == 39 then Rune
    else (if x == 34 then Text
    else (if x == 96 then RawText
    else (if is_white x then White
    else (if is_letter x then Word
    else (if is_digit x || point then Number
    else (if listed operators (x ∷ []) then Operator
    else Stray)))))))))

-- What begins with the character x, with y behind it.
abbrev pub begun : ℕ → ℕ → PieceKind
begun x y = begun_by x (x == 47 && y == 47) (x == 47 && y == 42) (x == 46 && is_digit y) (x == 48 && is_x y)

-- What a piece is, by its first two characters.
abbrev pub kind : List ℕ → PieceKind
kind [] = Stray
kind (x ∷ xs) = begun x (front xs)

-- Where a piece is one character on; None: the character is not part of it.
-- A comment or a literal that is not ended goes on to the end of the text, or of the line.
unfoldable pub goes : Mode → ℕ → Option Mode
goes InLine x = if x == 10 then None else Some InLine
goes Opened x = Some InBlock
goes InBlock x = if x == 42 then Some AfterStar else Some InBlock
goes AfterStar x = if x == 47 then Some Whole else (if x == 42 then Some AfterStar else Some InBlock)
goes InWord x = if is_in_word x then Some InWord else None
goes (InRun exponent) x = if is_in_run x then Some (InRun (is_exponent x)) else (if exponent && is_sign x then Some (InRun false) else None)
goes (InHexRun power) x = if is_in_run x then Some (InHexRun (is_power x)) else (if power && is_sign x then Some (InHexRun false) else None)
goes InRune x = if x == 10 then None else (if x == 39 then Some Whole else (if x == 92 then Some AfterRuneSlash else Some InRune))
goes AfterRuneSlash x = if x == 10 then None else Some InRune
goes InText x = if x == 10 then None else (if x == 34 then Some Whole else (if x == 92 then Some AfterSlash else Some InText))
goes AfterSlash x = if x == 10 then None else Some InText
goes InRaw x = if x == 96 then Some Whole else Some InRaw
goes Whole x = None

abbrev pub after : Mode → List ℕ → Option Mode
after m [] = Some m
after m (x ∷ xs) = option_and_then (λ n. after n xs) (goes m x)

-- Where a piece is, behind its first character.
abbrev pub begins : PieceKind → Mode
begins LineComment = InLine
begins BlockComment = Opened
begins Word = InWord
begins Number = InRun false
begins HexNumber = InHexRun false
begins Rune = InRune
begins Text = InText
begins RawText = InRaw
begins White = Whole
begins Operator = Whole
begins Stray = Whole

-- Whether x and then xs is a piece of this kind: an operator of the table, or what goes on from character to character.
abbrev pub has_shape : PieceKind → ℕ → List ℕ → Bool
has_shape Operator x xs = listed operators (x ∷ xs)
has_shape k x xs = is_some (after (begins k) xs)

abbrev pub is_piece : List ℕ → Bool
is_piece [] = false
is_piece (x ∷ xs) = has_shape (begun x (front xs)) x xs

-- What is wrong with a piece: it is malformed or not ended (Lexical), or outside the profile (Outside).

abbrev pub unless_lexical : Bool → Option FaultCode
unless_lexical well_formed = if well_formed then None else Some Lexical

abbrev pub if_outside : Bool → Option FaultCode
if_outside outside = if outside then Some Outside else None

abbrev pub ends_in_i : List ℕ → Bool
ends_in_i p = slice_index p (length p - 1) == 105

-- A run that is a number of Go's other kinds: with a point, an imaginary unit, or an exponent.
abbrev pub is_other_number : Bool → List ℕ → Bool
is_other_number has_exponent p = has_exponent || (ends_in_i p || list_any (λ x. x == 46) p)

abbrev pub number_defect : Bool → List ℕ → Option FaultCode
number_defect has_exponent p = if is_integer p then None else (if is_other_number has_exponent p then Some Outside else Some Lexical)

abbrev pub is_end : Option Mode → Bool
is_end (Some Whole) = true
is_end m = false

-- whether a comment or a literal is ended
abbrev pub is_ended : PieceKind → List ℕ → Bool
is_ended k [] = false
is_ended k (x ∷ xs) = is_end (after (begins k) xs)

-- what is wrong with a piece of this kind, where it is known whether it is ended
abbrev pub defect_by : PieceKind → Bool → List ℕ → Option FaultCode
defect_by White ended p = None
defect_by LineComment ended p = None
defect_by BlockComment ended p = unless_lexical ended
defect_by Word ended p = if_outside (is_outside (word_kind p))
defect_by Number ended p = number_defect (list_any is_exponent p) p
defect_by HexNumber ended p = number_defect (list_any is_power p) p
defect_by Rune ended p = unless_lexical (ended && is_one (rune_elements p))
defect_by Text ended p = unless_lexical (ended && is_some (string_elements p))
defect_by RawText ended p = unless_lexical ended
defect_by Operator ended p = if_outside (listed outside_operators p)
defect_by Stray ended p = Some Lexical

abbrev pub defect : List ℕ → Option FaultCode
defect p = defect_by (kind p) (is_ended (kind p) p) p

abbrev pub is_good : List ℕ → Bool
is_good p = not (is_some (defect p))

-- How far a piece goes on over these characters, and where it is then.
pub record Reaches (m : Mode) (text : List ℕ) (n : ℕ) (last : Mode) : Type 0 where
  pub within : n ≤ length text
  pub on : after m (take n text) ≡ Some last
  pub stops : (y : ℕ) (ys : List ℕ) → drop n text ≡ y ∷ ys → goes last y ≡ None

-- The longest operator that a text begins with has n characters, or n is 1.
pub record IsOperatorLength (text : List ℕ) (n : ℕ) : Type 0 where
  pub some : 0 < n
  pub within : n ≤ length text
  pub most : n ≤ 3
  pub listed_or_one : n ≢ 1 → listed operators (take n text) ≡ true
  pub no_three : n ≢ 3 → 3 ≤ length text → listed operators (take 3 text) ≡ false
  pub no_two : n ≡ 1 → 2 ≤ length text → listed operators (take 2 text) ≡ false
