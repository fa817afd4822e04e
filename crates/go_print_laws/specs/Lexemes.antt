-- Tokens and blanks of which a text is made.
use Rattle.std.specs.Prelude.{◌≡◌, ℕ, Bool, true, false, List, [], ◌∷◌}
use Rattle.std.specs.List.{list_all}
use Rattle.std.specs.Str.{chars, encode_utf8_all, all_scalars}
use Rattle.go_tokens.specs.declared.token.TokenKind.{TokenKind}
use Rattle.go_tokens.specs.declared.token.TokenKind.TheVariants as token
use Rattle.go_tokens.specs.Spellings.{ends_statement_kind}
use Rattle.go_tokens.specs.Pieces.{is_piece, is_good}
use Rattle.go_tokens.specs.Encoding.{is_plain}
use Rattle.go_tokens.specs.Files.{HasToken}
use Rattle.go_tokens.specs.Lexing.{is_token, token_kind, join}
use Rattle.go_tokens.specs.Replacing.{Item, are_apart}

-- a token of a kind with its bytes and its characters, or a blank
pub data Lexeme : Type 0 where
  word : TokenKind → List ℕ → List ℕ → Lexeme
  blank : Lexeme

-- a token in ASCII, whose characters are its bytes
abbrev pub mark : TokenKind → List ℕ → Lexeme
mark k text = word k text text

-- a name, by its bytes
abbrev pub identifier : List ℕ → Lexeme
identifier bytes = word token.Identifier bytes (chars bytes)

-- the characters, cut into pieces
abbrev pub pieces : List Lexeme → List (List ℕ)
pieces [] = []
pieces (word k bytes text ∷ ls) = text ∷ pieces ls
pieces (blank ∷ ls) = (32 ∷ []) ∷ pieces ls

abbrev pub words : List Lexeme → List TokenKind
words [] = []
words (word k bytes text ∷ ls) = k ∷ words ls
words (blank ∷ ls) = words ls

-- the tokens with their bytes
abbrev pub tokens_of : List Lexeme → List Item
tokens_of [] = []
tokens_of (word k bytes text ∷ ls) = record { kind = k; text = bytes } ∷ tokens_of ls
tokens_of (blank ∷ ls) = tokens_of ls

-- the characters are one token of the kind, well formed, and these are their bytes
pub record IsWord (k : TokenKind) (bytes text : List ℕ) : Type 0 where
  pub piece : is_piece text ≡ true
  pub good : is_good text ≡ true
  pub token : is_token text ≡ true
  pub kind : token_kind text ≡ k
  pub scalars : all_scalars text ≡ true
  pub plain : list_all is_plain text ≡ true
  pub encoded : encode_utf8_all text ≡ bytes

-- the bytes spell a name
abbrev pub IsName : List ℕ → Type 0
IsName bytes = IsWord token.Identifier bytes (chars bytes)

-- So does each name in a file.
abbrev pub NamesAreNames : Type 0
NamesAreNames = (bytes name : List ℕ) → HasToken bytes token.Identifier name → IsName name

abbrev pub AreNames : List (List ℕ) → Type 0
AreNames [] = Unit {0}
AreNames (n ∷ ns) = IsName n × AreNames ns

-- each is a token of its kind, and none joins what is behind it
abbrev pub AreWords : List Lexeme → Type 0
AreWords [] = Unit {0}
AreWords (word k bytes text ∷ ls) = IsWord k bytes text × (are_apart text (join (pieces ls)) ≡ true) × AreWords ls
AreWords (blank ∷ ls) = AreWords ls

abbrev pub begins_with_word : List Lexeme → Bool
begins_with_word [] = false
begins_with_word (word k bytes text ∷ ls) = true
begins_with_word (blank ∷ ls) = false

-- whether a semicolon is inserted behind all at a line's end; b says it of what is in front
abbrev pub ends_line : Bool → List Lexeme → Bool
ends_line b [] = b
ends_line b (word k bytes text ∷ ls) = ends_line (ends_statement_kind k) ls
ends_line b (blank ∷ ls) = ends_line false ls
