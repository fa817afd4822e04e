-- What lexing says of some texts, worked out by hand from the Go specification.
use Rattle.std.specs.Prelude.{◌≡◌, List, [], ◌∷◌, true, not, codes}
use Rattle.std.specs.List.{list_all}
use Rattle.go_tokens.specs.declared.token.TokenKind.TheVariants.{Identifier, Integer, Comma}
use Rattle.go_tokens.specs.Literals.{is_integer, integer_value, rune_value, string_value}
use Rattle.go_tokens.specs.Lexing.{span, token, inserted, Lexes}

pub record Examples : Type 0 where
  -- integers
  pub decimal : integer_value (codes "1_000") ≡ 1000
  pub hexadecimal : integer_value (codes "0x_1F") ≡ 31
  pub octal : integer_value (codes "017") ≡ 15
  pub binary : integer_value (codes "0b101") ≡ 5
  pub none_of_these : list_all (λ p. not (is_integer p)) (codes "1__0" ∷ codes "08" ∷ codes "0x" ∷ codes "1_" ∷ codes "0b12" ∷ codes "0o8" ∷ []) ≡ true
  -- runes and strings
  pub rune : rune_value (codes "'a'") ≡ 97
  pub rune_escape : rune_value (codes "'\\377'") ≡ 255
  pub rune_quote : rune_value (codes "'\\''") ≡ 39
  pub text : string_value (codes "\"a\\x41\\u00e9\\n\"") ≡ 97 ∷ 65 ∷ 195 ∷ 169 ∷ 10 ∷ []
  pub raw : string_value (96 ∷ 97 ∷ 13 ∷ 10 ∷ 92 ∷ 96 ∷ []) ≡ 97 ∷ 10 ∷ 92 ∷ []
  -- `x /* a`, a newline, `b */ y` and a newline: the comment acts like a newline
  pub comment_lexes : Lexes 0 (codes "x /* a\nb */ y\n") (token 0 Identifier 0 1 ∷ inserted 0 1 ∷ token 0 Identifier 12 1 ∷ inserted 0 13 ∷ []) (span 0 2 9 ∷ [])
  -- `1,`, a newline, `2`: no semicolon after the comma
  pub comma_lexes : Lexes 0 (codes "1,\n2") (token 0 Integer 0 1 ∷ token 0 Comma 1 1 ∷ token 0 Integer 3 1 ∷ inserted 0 4 ∷ []) []
