-- Tokens of a file that is known.
use Rattle.std.specs.Prelude.{ℕ, ◌+◌, ◌*◌, List, map}
use Rattle.go_tokens.specs.declared.token.Token.{Token}
use Rattle.go_tokens.specs.declared.token.PlacedKind.{PlacedKind}
use Rattle.go_tokens.specs.Lexing.{token}

-- how many bytes it has
abbrev pub length_of : PlacedKind → ℕ
length_of p = p.high * 65536 + p.low

-- the token that stands there, in the file with this number
abbrev pub in_file : ℕ → PlacedKind → Token
in_file file p = token file p.kind p.start (length_of p)

-- the tokens of a row, in the file with this number
abbrev pub all_in_file : ℕ → List PlacedKind → List Token
all_in_file file ps = map (in_file file) ps
