-- Worked examples, computed.
use Rattle.std.proofs.Common.{◌≡◌, ℕ, Bool, true, false, not, ◌&&◌, List, [], ◌∷◌, ◌++◌, refl, subst, codes}
use Rattle.std.specs.List.{list_all}
use Rattle.std.specs.Char.{encode_utf8}
use Rattle.ucd_category.specs.GeneralCategory.{general_category}
use Rattle.ucd_category.specs.GeneralCategoryRows.{general_category_rows}
use Rattle.ucd_table.specs.Rows.{value_in}
use Rattle.go_tokens.specs.declared.token.TokenKind.TheVariants.{Identifier, Integer, Comma}
use Rattle.go_tokens.specs.Characters.{is_white, is_letter, is_digit, is_in_word, is_in_run, is_exponent, is_power, is_sign, is_x, is_b, is_o}
use Rattle.go_tokens.specs.Spellings.{same_text, keywords, punctuation, outside_operators, operators}
use Rattle.go_tokens.specs.Literals.{letter_base, is_digit_of, is_code_point, letter_escape, is_integer, integer_value, rune_value, string_value}
use Rattle.go_tokens.specs.Pieces.{begun_by, goes, is_piece, is_good}
use Rattle.go_tokens.specs.Lexing.{join, width, span, token, inserted, Cut, tokens, comments, Lexes}
use Rattle.go_tokens.specs.Examples.{Examples}
use Rattle.go_tokens.proofs.Lists.{both}
use Rattle.go_tokens.proofs.Seams.{not_false}
use Rattle.go_tokens.proofs.Shapes.{Stops, stops_longest}

-- Integers.
decimal : integer_value (codes "1_000") ≡ 1000
unfolding letter_base is_x is_b is_o
decimal = refl

hexadecimal : integer_value (codes "0x_1F") ≡ 31
unfolding letter_base is_x is_b is_o
hexadecimal = refl

octal : integer_value (codes "017") ≡ 15
unfolding letter_base is_x is_b is_o
octal = refl

binary : integer_value (codes "0b101") ≡ 5
unfolding letter_base is_x is_b is_o
binary = refl

none_of_these : list_all (λ p. not (is_integer p)) (codes "1__0" ∷ codes "08" ∷ codes "0x" ∷ codes "1_" ∷ codes "0b12" ∷ codes "0o8" ∷ []) ≡ true
unfolding letter_base is_x is_b is_o is_digit is_digit_of
none_of_these = refl

-- Runes and strings.
rune : rune_value (codes "'a'") ≡ 97
unfolding is_digit_of is_code_point letter_escape
rune = refl

rune_escape : rune_value (codes "'\\377'") ≡ 255
unfolding is_digit_of is_code_point letter_escape
rune_escape = refl

rune_quote : rune_value (codes "'\\''") ≡ 39
unfolding is_digit_of is_code_point letter_escape
rune_quote = refl

text : string_value (codes "\"a\\x41\\u00e9\\n\"") ≡ 97 ∷ 65 ∷ 195 ∷ 169 ∷ 10 ∷ []
unfolding is_digit_of is_code_point letter_escape encode_utf8
text = refl

raw : string_value (96 ∷ 97 ∷ 13 ∷ 10 ∷ 92 ∷ 96 ∷ []) ≡ 97 ∷ 10 ∷ 92 ∷ []
unfolding encode_utf8
raw = refl

-- A test of a cutting.
abbrev two_dots_first : List ℕ → Bool
two_dots_first (x ∷ y ∷ ys) = same_text (x ∷ y ∷ []) (46 ∷ 46 ∷ [])
two_dots_first xs = false

abbrev stops_test : List ℕ → List ℕ → Bool
stops_test p [] = true
stops_test p (y ∷ ys) = not (is_piece (p ++ y ∷ [])) && not (same_text p (46 ∷ []) && two_dots_first (y ∷ ys))

abbrev pub cut_test : List (List ℕ) → List ℕ → Bool
cut_test [] r = true
cut_test (p ∷ ps) r = is_piece p && (stops_test p (join ps ++ r) && cut_test ps r)

stops_by_test : (p rest : List ℕ) → stops_test p rest ≡ true → Stops p rest
stops_by_test p [] h = record { next = λ y ys e. cc; dots = λ ys e f. cc }
stops_by_test p (z ∷ zs) h =
    let parts = both (not (is_piece (p ++ z ∷ []))) _ h in
    record {
      next = λ y ys e. let one : is_piece (p ++ z ∷ []) ≡ false = not_false _ parts.0 in let same : z ≡ y = cc in subst (λ n. is_piece (p ++ n ∷ []) ≡ false) same one;
      dots = λ ys e f. let two = not_false _ parts.1 in let here : (same_text (46 ∷ []) (46 ∷ []) && two_dots_first (46 ∷ 46 ∷ ys)) ≡ false = subst (λ l. (same_text (46 ∷ []) (46 ∷ []) && two_dots_first l) ≡ false) f (subst (λ q. (same_text q (46 ∷ []) && two_dots_first (z ∷ zs)) ≡ false) e two) in cc;
    }

pub cut_by_test : (ps : List (List ℕ)) (r : List ℕ) → cut_test ps r ≡ true → Cut ps r
cut_by_test [] r h = tt
cut_by_test (p ∷ ps) r h =
    let a = both (is_piece p) _ h in
    let b = both (stops_test p (join ps ++ r)) _ a.1 in
    (a.0, stops_longest p (join ps ++ r) a.0 (stops_by_test p (join ps ++ r) b.0), cut_by_test ps r b.1)

-- The lexing of a text whose cutting is tested.
pub lexes_by_test : (file : ℕ) (ps : List (List ℕ)) → (cut_test ps [] && list_all is_good ps) ≡ true → Lexes file (join ps) (tokens file 0 ps true) (comments file 0 ps)
lexes_by_test file ps h = let parts = both (cut_test ps []) (list_all is_good ps) h in record { pieces = ps; whole = refl; cut = cut_by_test ps [] parts.0; good = parts.1; spelled = refl; noted = refl }

-- `x /* a`, a newline, `b */ y` and a newline: the comment acts like a newline
pub comment_lexes : Lexes 0 (codes "x /* a\nb */ y\n") (token 0 Identifier 0 1 ∷ inserted 0 1 ∷ token 0 Identifier 12 1 ∷ inserted 0 13 ∷ []) (span 0 2 9 ∷ [])
unfolding width begun_by is_white is_letter is_digit is_in_word is_in_run is_exponent is_power is_sign is_x goes operators punctuation outside_operators keywords general_category value_in general_category_rows encode_utf8
comment_lexes = lexes_by_test 0 (codes "x" ∷ codes " " ∷ codes "/* a\nb */" ∷ codes " " ∷ codes "y" ∷ codes "\n" ∷ []) refl

-- `1,`, a newline, `2`: none behind the comma
pub comma_lexes : Lexes 0 (codes "1,\n2") (token 0 Integer 0 1 ∷ token 0 Comma 1 1 ∷ token 0 Integer 3 1 ∷ inserted 0 4 ∷ []) []
unfolding width begun_by is_white is_letter is_digit is_in_word is_in_run is_exponent is_power is_sign is_x goes operators punctuation outside_operators keywords letter_base is_digit_of is_b is_o general_category value_in general_category_rows encode_utf8
comma_lexes = lexes_by_test 0 (codes "1" ∷ codes "," ∷ codes "\n" ∷ codes "2" ∷ []) refl

pub all : Examples
all = record {
  decimal = decimal;
  hexadecimal = hexadecimal;
  octal = octal;
  binary = binary;
  none_of_these = none_of_these;
  rune = rune;
  rune_escape = rune_escape;
  rune_quote = rune_quote;
  text = text;
  raw = raw;
  comment_lexes = comment_lexes;
  comma_lexes = comma_lexes;
}
