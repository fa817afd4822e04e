-- Lexing: a cutting of the whole text into pieces, and the tokens and comments that these are.
use Rattle.std.specs.Prelude.{◌≡◌, ℕ, ◌+◌, ◌<◌, ◌≤◌, take, drop, Bool, true, false, ◌&&◌, ◌||◌, ◌==◌, if◌then◌else◌, List, [], ◌∷◌, ◌++◌, length, Some}
use Rattle.std.specs.List.{list_any, list_all}
use Rattle.std.proofs.Math.Nat.{le-add_right}
use Rattle.std.specs.Str.{encode_utf8_all}
use Rattle.go_base.specs.declared.Span.{Span}
use Rattle.go_base.specs.declared.Fault.{Fault}
use Rattle.go_base.specs.declared.FaultCode.{FaultCode}
use Rattle.go_base.specs.declared.FaultCode.TheVariants.{Outside}
use Rattle.go_tokens.specs.declared.piece.PieceKind.{PieceKind}
use Rattle.go_tokens.specs.declared.piece.PieceKind.TheVariants.{White, LineComment, BlockComment, Word, Number, HexNumber, Rune, Text, RawText, Operator, Stray}
use Rattle.go_tokens.specs.declared.token.TokenKind.{TokenKind}
use Rattle.go_tokens.specs.declared.token.TokenKind.TheVariants as kinds
use Rattle.go_tokens.specs.declared.token.Token.{Token}
use Rattle.go_tokens.specs.Spellings.{word_kind, operator_kind, ends_statement_kind}
use Rattle.go_tokens.specs.Pieces.{kind, is_piece, defect_by, defect, is_good}

-- the characters of pieces
abbrev pub join : List (List ℕ) → List ℕ
join [] = []
join (p ∷ ps) = p ++ join ps

-- how many bytes characters have
unfoldable pub width : List ℕ → ℕ
width cs = length (encode_utf8_all cs)

-- No longer piece begins where p begins, with rest behind it.
pub record IsLongest (p rest : List ℕ) : Type 0 where
  pub by : (longer others : List ℕ) → longer ++ others ≡ p ++ rest → is_piece longer ≡ true → length longer ≤ length p

-- Each of these is a piece, and the longest that begins at its place. The rest stands behind them all.
abbrev pub Cut : List (List ℕ) → List ℕ → Type 0
Cut [] rest = Unit {0}
Cut (p ∷ ps) rest = (is_piece p ≡ true) × IsLongest p (join ps ++ rest) × Cut ps rest

-- The piece that a text begins with: n characters of this kind, whose defect is that of an ended one or not.
pub record IsFirst (text : List ℕ) (k : PieceKind) (n : ℕ) (ended : Bool) : Type 0 where
  pub some : 0 < n
  pub within : n ≤ length text
  pub kind_is : kind (take n text) ≡ k
  pub piece : is_piece (take n text) ≡ true
  pub longest : IsLongest (take n text) (drop n text)
  pub judged : defect (take n text) ≡ defect_by k ended (take n text)

-- Tokens are what is neither white space nor a comment.
abbrev pub is_token_kind : PieceKind → Bool
is_token_kind White = false
is_token_kind LineComment = false
is_token_kind BlockComment = false
is_token_kind Word = true
is_token_kind Number = true
is_token_kind HexNumber = true
is_token_kind Rune = true
is_token_kind Operator = true
is_token_kind Text = true
is_token_kind RawText = true
is_token_kind Stray = true

abbrev pub is_token : List ℕ → Bool
is_token p = is_token_kind (kind p)

-- What token a piece is.
abbrev pub token_kind_as : PieceKind → List ℕ → TokenKind
token_kind_as Word p = word_kind p
token_kind_as Number p = kinds.Integer
token_kind_as HexNumber p = kinds.Integer
token_kind_as Rune p = kinds.Rune
token_kind_as Text p = kinds.Text
token_kind_as RawText p = kinds.Text
token_kind_as Operator p = operator_kind p
token_kind_as White p = kinds.Semicolon
token_kind_as LineComment p = kinds.Semicolon
token_kind_as BlockComment p = kinds.Semicolon
token_kind_as Stray p = kinds.Semicolon

abbrev pub token_kind : List ℕ → TokenKind
token_kind p = token_kind_as (kind p) p

-- Whether a semicolon is inserted behind it, where it is the last token of its line.
abbrev pub ends_statement : List ℕ → Bool
ends_statement p = ends_statement_kind (token_kind p)

-- Whether white space or a comment acts like a newline.
abbrev pub is_break_as : PieceKind → List ℕ → Bool
is_break_as LineComment p = true
is_break_as k p = list_any (λ x. x == 10) p

abbrev pub is_break : List ℕ → Bool
is_break p = is_break_as (kind p) p

-- Whether a line ends before the next token. Behind these pieces one ends or does not.
abbrev pub line_ends : List (List ℕ) → Bool → Bool
line_ends [] behind = behind
line_ends (p ∷ ps) behind = if is_token p then false else (is_break p || line_ends ps behind)

-- n bytes of a file from a place on
unfoldable pub span : ℕ → ℕ → ℕ → Span
span file at n = record { file = file; start = at; end = at + n; ordered = le-add_right at n }

-- a token of n bytes
abbrev pub token : ℕ → TokenKind → ℕ → ℕ → Token
token file k at n = record { kind = k; span = span file at n }

-- an inserted semicolon
abbrev pub inserted : ℕ → ℕ → Token
inserted file at = token file kinds.Semicolon at 0

-- The tokens of pieces that begin at a place, and whether a line ends behind them.
abbrev pub tokens_of : ℕ → ℕ → List ℕ → Bool → List Token
tokens_of file at p ends = if is_token p then token file (token_kind p) at (width p) ∷ (if ends_statement p && ends then inserted file (at + width p) ∷ [] else []) else []

abbrev pub tokens : ℕ → ℕ → List (List ℕ) → Bool → List Token
tokens file at [] behind = []
tokens file at (p ∷ ps) behind = tokens_of file at p (line_ends ps behind) ++ tokens file (at + width p) ps behind

abbrev pub is_comment_kind : PieceKind → Bool
is_comment_kind LineComment = true
is_comment_kind BlockComment = true
is_comment_kind k = false

abbrev pub comments : ℕ → ℕ → List (List ℕ) → List Span
comments file at [] = []
comments file at (p ∷ ps) = (if is_comment_kind (kind p) then span file at (width p) ∷ [] else []) ++ comments file (at + width p) ps

-- The text of a file has this lexing. The end of a file counts as a line's end.
pub record Lexes (file : ℕ) (text : List ℕ) (ts : List Token) (cs : List Span) : Type 0 where
  pub pieces : List (List ℕ)
  pub whole : join pieces ≡ text
  pub cut : Cut pieces []
  pub good : list_all is_good pieces ≡ true
  pub spelled : ts ≡ tokens file 0 pieces true
  pub noted : cs ≡ comments file 0 pieces

-- how much of a piece a fault covers: a malformed one's first byte, all of one outside the profile
abbrev pub covered : FaultCode → List ℕ → ℕ
covered Outside p = width p
covered code p = 1

-- The first piece of the text with a defect, and its place.
pub record IsTokenFault (file : ℕ) (text : List ℕ) (fault : Fault) : Type 0 where
  pub pieces : List (List ℕ)
  pub bad : List ℕ
  pub rest : List ℕ
  pub whole : join pieces ++ (bad ++ rest) ≡ text
  pub cut : Cut pieces (bad ++ rest)
  pub good : list_all is_good pieces ≡ true
  pub piece : is_piece bad ≡ true
  pub longest : IsLongest bad rest
  pub wrong : defect bad ≡ Some fault.code
  pub place : fault.span ≡ span file (width (join pieces)) (covered fault.code bad)
