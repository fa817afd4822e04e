-- Texts in which ranges are replaced, and what their tokens are.
use Rattle.std.specs.Prelude.{◌≡◌, ℕ, Bool, true, false, not, ◌&&◌, ◌||◌, ◌==◌, if◌then◌else◌, List, [], ◌∷◌, ◌++◌, map, slice_range}
use Rattle.std.specs.List.{list_any, list_all}
use Rattle.std.specs.Str.{encode_utf8_all}
use Rattle.go_tokens.specs.declared.token.TokenKind.{TokenKind}
use Rattle.go_tokens.specs.declared.token.TokenKind.TheVariants.{Semicolon}
use Rattle.go_tokens.specs.declared.token.Token.{Token}
use Rattle.go_base.specs.declared.Span.{Span}
use Rattle.go_tokens.specs.Characters.{is_digit, is_in_word, is_in_run}
use Rattle.go_tokens.specs.Spellings.{operators, listed}
use Rattle.go_tokens.specs.declared.piece.PieceKind.{PieceKind}
use Rattle.go_tokens.specs.declared.piece.PieceKind.TheVariants.{Word}
use Rattle.go_tokens.specs.Pieces.{kind, is_good}
use Rattle.go_tokens.specs.Lexing.{join, Cut, is_token, token_kind, ends_statement, line_ends, Lexes}

-- A token without its place: an inserted semicolon has no bytes.
pub record Item : Type 0 where
  pub kind : TokenKind
  pub text : List ℕ

abbrev pub semicolon : Bool → List Item
semicolon wanted = if wanted then record { kind = Semicolon; text = [] } ∷ [] else []

abbrev pub items_of : List ℕ → Bool → List Item
items_of p ends = if is_token p then record { kind = token_kind p; text = encode_utf8_all p } ∷ semicolon (ends_statement p && ends) else []

-- The tokens of pieces without their places, and whether a line ends behind them.
abbrev pub items : List (List ℕ) → Bool → List Item
items [] behind = []
items (p ∷ ps) behind = items_of p (line_ends ps behind) ++ items ps behind

-- Neighbours that may stand in one token: a letter or digit with another one or a period, which is part of a number's run; a
-- period with a digit or a period; neighbours in an operator; and those at the beginning of a comment. White space is none.
abbrev pub are_beside : ℕ → ℕ → List ℕ → Bool
are_beside x y [] = false
are_beside x y (a ∷ []) = false
are_beside x y (a ∷ b ∷ w) = (x == a && y == b) || are_beside x y (b ∷ w)

unfoldable pub joins : ℕ → ℕ → Bool
joins x y =
    (is_in_word x && is_in_run y) || (x == 46 && (is_digit y || y == 46)) || list_any (are_beside x y) operators || (x == 47 && (y == 47 || y == 42))

-- Whether the last character joins with y.
abbrev pub last_joins : List ℕ → ℕ → Bool
last_joins [] y = false
last_joins (x ∷ []) y = joins x y
last_joins (x ∷ z ∷ zs) y = last_joins (z ∷ zs) y

abbrev pub are_apart : List ℕ → List ℕ → Bool
are_apart left [] = true
are_apart left (y ∷ ys) = not (last_joins left y)

-- a blank or a tab
abbrev pub is_blank : List ℕ → Bool
is_blank p = listed ((32 ∷ []) ∷ (9 ∷ []) ∷ []) p

-- Pieces up to a last token, and blanks behind it.
pub record Range : Type 0 where
  pub before : List (List ℕ)
  pub last : List ℕ
  pub blanks : List (List ℕ)

abbrev pub pieces_of : Range → List (List ℕ)
pieces_of r = r.before ++ r.last ∷ r.blanks

abbrev pub begins_with_token : List (List ℕ) → Bool
begins_with_token [] = false
begins_with_token (p ∷ ps) = is_token p

-- blanks, and then a token
abbrev pub blanks_and_token : List (List ℕ) → Bool
blanks_and_token [] = false
blanks_and_token (p ∷ ps) = is_token p || (is_blank p && blanks_and_token ps)

-- A range that is replaced: it begins where a token begins, and ends where one ends.
pub record IsOld (r : Range) : Type 0 where
  pub begins : begins_with_token (pieces_of r) ≡ true
  pub ends : is_token r.last ≡ true
  pub blanks : r.blanks ≡ []

-- What replaces it: it has tokens when it stands alone, and nothing but blanks before the first and behind the last.
pub record IsNew (r : Range) : Type 0 where
  pub begins : blanks_and_token (pieces_of r) ≡ true
  pub ends : is_token r.last ≡ true
  pub blanks : list_all is_blank r.blanks ≡ true
  pub cut : Cut (pieces_of r) []
  pub good : list_all is_good (pieces_of r) ≡ true

-- What is appended: nothing, or what has tokens when it stands alone and begins with a newline.
abbrev pub is_at_line_end : List ℕ → Bool
is_at_line_end [] = true
is_at_line_end (x ∷ xs) = x == 10

pub record IsAppended (tail : List (List ℕ)) : Type 0 where
  pub begins : is_at_line_end (join tail) ≡ true
  pub cut : Cut tail []
  pub good : list_all is_good tail ≡ true

-- A text in parts: pieces that stay, and ranges with what replaces them.
pub data Part : Type 0 where
  Kept : List (List ℕ) → Part
  Replaced : (old new : Range) → Part

abbrev pub old_pieces : List Part → List (List ℕ)
old_pieces [] = []
old_pieces (Kept ps ∷ parts) = ps ++ old_pieces parts
old_pieces (Replaced old new ∷ parts) = pieces_of old ++ old_pieces parts

abbrev pub new_pieces : List Part → List (List ℕ) → List (List ℕ)
new_pieces [] tail = tail
new_pieces (Kept ps ∷ parts) tail = ps ++ new_pieces parts tail
new_pieces (Replaced old new ∷ parts) tail = pieces_of new ++ new_pieces parts tail

abbrev pub is_none : List (List ℕ) → Bool
is_none [] = true
is_none (p ∷ ps) = false

abbrev pub begins_with_period : List ℕ → Bool
begins_with_period [] = false
begins_with_period (y ∷ ys) = y == 46

abbrev pub is_word_kind : PieceKind → Bool
is_word_kind Word = true
is_word_kind k = false

-- whether the range ends with a word
abbrev pub ends_in_word : Range → Bool
ends_in_word r = is_word_kind (kind r.last) && is_none r.blanks

-- Whether the range and what is behind it don't join: their neighbours don't, or a period stands behind a word, which is no
-- number.
abbrev pub is_apart_behind : Range → List ℕ → Bool
is_apart_behind r rest = are_apart (join (pieces_of r)) rest || (ends_in_word r && begins_with_period rest)

-- What is asked of each part, by what stands behind it: at a seam of the new text the neighbours don't join, and where a
-- line ends behind a range, a semicolon is inserted behind its new last token exactly where one is behind the old.
abbrev pub Fits : List Part → List (List ℕ) → Type 0
Fits [] tail = IsAppended tail
Fits (Kept ps ∷ parts) tail = (are_apart (join ps) (join (new_pieces parts tail)) ≡ true) × Fits parts tail
Fits (Replaced old new ∷ parts) tail =
    IsOld old × IsNew new × (is_apart_behind new (join (new_pieces parts tail)) ≡ true) × (line_ends (old_pieces parts) true ≡ true → ends_statement old.last ≡ ends_statement new.last) × Fits parts tail

-- The tokens of the parts, each range being the one that is chosen. A range has the tokens that it has alone; the semicolon
-- behind its last one is that of the old text.
abbrev pub spliced : (Range → Range → Range) → List Part → List Item
spliced choose [] = []
spliced choose (Kept ps ∷ parts) = items ps (line_ends (old_pieces parts) true) ++ spliced choose parts
spliced choose (Replaced old new ∷ parts) = items (pieces_of (choose old new)) false ++ (semicolon (ends_statement old.last && line_ends (old_pieces parts) true) ++ spliced choose parts)

-- The tokens of the new text are those of the old with the ranges replaced, and what is appended.
pub record IsReplaced (parts : List Part) (tail : List (List ℕ)) : Type 0 where
  pub cut : Cut (new_pieces parts tail) []
  pub good : list_all is_good (new_pieces parts tail) ≡ true
  pub old : items (old_pieces parts) true ≡ spliced (λ old new. old) parts
  pub new : items (new_pieces parts tail) true ≡ spliced (λ old new. new) parts ++ items tail true

-- A token of a text without its place.
abbrev pub read : List ℕ → Token → Item
read text t = record { kind = t.kind; text = slice_range (encode_utf8_all text) t.span.start t.span.end }

-- The lexing of the new text, and the tokens of both.
pub record NewLexing (file : ℕ) (parts : List Part) (tail : List (List ℕ)) (ts : List Token) : Type 0 where
  pub tokens : List Token
  pub comments : List Span
  pub lexes : Lexes file (join (new_pieces parts tail)) tokens comments
  pub old : map (read (join (old_pieces parts))) ts ≡ spliced (λ old new. old) parts
  pub new : map (read (join (new_pieces parts tail))) tokens ≡ spliced (λ old new. new) parts ++ items tail true
