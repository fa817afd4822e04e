-- Texts in which ranges are replaced, by the places of tokens.
use Rattle.std.specs.Prelude.{◌≡◌, ℕ, ◌+◌, ◌<◌, ◌⊎◌, Bool, true, false, not, ◌&&◌, ◌||◌, ◌==◌, List, [], ◌∷◌, ◌++◌, map}
use Rattle.std.specs.List.{list_all}
use Rattle.go_base.specs.declared.Span.{Span}
use Rattle.go_tokens.specs.declared.token.Token.{Token}
use Rattle.go_tokens.specs.declared.token.TokenKind.{TokenKind}
use Rattle.go_tokens.specs.declared.token.TokenKind.TheVariants.{Identifier}
use Rattle.go_tokens.specs.declared.piece.PieceKind.{PieceKind}
use Rattle.go_tokens.specs.declared.piece.PieceKind.TheVariants.{LineComment}
use Rattle.go_tokens.specs.Spellings.{ends_statement_kind}
use Rattle.go_tokens.specs.Pieces.{kind}
use Rattle.go_tokens.specs.Lexing.{join, width, Cut, line_ends, Lexes}
use Rattle.go_tokens.specs.Encoding.{IsText}
use Rattle.go_tokens.specs.Files.{IsLexing}
use Rattle.go_tokens.specs.Replacing.{read, items, spliced, are_apart, begins_with_period, is_at_line_end, Part, Kept, Replaced, pieces_of, old_pieces, new_pieces, Fits}

-- A text with ranges that are replaced.
pub data Edits : Type 0 where
  Rest : (kept : List ℕ) → Edits
  Edit : (kept old new : List ℕ) → Edits → Edits

abbrev pub old_text : Edits → List ℕ
old_text (Rest kept) = kept
old_text (Edit kept old new edits) = kept ++ (old ++ old_text edits)

abbrev pub new_text : Edits → List ℕ → List ℕ
new_text (Rest kept) tail = kept ++ tail
new_text (Edit kept old new edits) tail = kept ++ (new ++ new_text edits tail)

abbrev pub IsAmong : List Token → Token → Type 0
IsAmong [] t = ⊥
IsAmong (u ∷ us) t = (u ≡ t) ⊎ IsAmong us t

-- A token that is written in the text; an inserted semicolon has an empty span.
abbrev pub IsWritten : Token → Type 0
IsWritten t = t.span.start < t.span.end

-- A written token begins at one place, and one ends at a later place.
pub record Spans (ts : List Token) (start end : ℕ) : Type 0 where
  pub first : Token
  pub last : Token
  pub has_first : IsAmong ts first
  pub has_last : IsAmong ts last
  pub first_written : IsWritten first
  pub last_written : IsWritten last
  pub begins : first.span.start ≡ start
  pub ends : last.span.end ≡ end
  pub some : start < end

abbrev pub is_blank_character : ℕ → Bool
is_blank_character x = x == 32 || x == 9

-- A text that has tokens when it stands alone, and nothing but blanks before the first and behind the last.
pub record Stands (file : ℕ) (text : List ℕ) : Type 0 where
  pub before : List ℕ
  pub inner : List ℕ
  pub behind : List ℕ
  pub whole : text ≡ before ++ (inner ++ behind)
  pub blank_before : list_all is_blank_character before ≡ true
  pub blank_behind : list_all is_blank_character behind ≡ true
  pub tokens : List Token
  pub comments : List Span
  pub lexes : Lexes file text tokens comments
  pub spans : Spans tokens (width before) (width before + width inner)

abbrev pub is_identifier : TokenKind → Bool
is_identifier Identifier = true
is_identifier k = false

abbrev pub is_empty_text : List ℕ → Bool
is_empty_text [] = true
is_empty_text (x ∷ xs) = false

-- whether the text ends with a name
abbrev pub ends_in_name : (file : ℕ) (text : List ℕ) → Stands file text → Bool
ends_in_name file text alone = is_identifier alone.spans.last.kind && is_empty_text alone.behind

-- Whether the new text and what is behind it don't join: their neighbours don't, or a period stands behind a name.
abbrev pub stands_apart : (file : ℕ) (text : List ℕ) → Stands file text → List ℕ → Bool
stands_apart file text alone rest = are_apart text rest || (ends_in_name file text alone && begins_with_period rest)

-- A line ends before the first token of the text, or with it.
pub record EndsLine (text : List ℕ) : Type 0 where
  pub pieces : List (List ℕ)
  pub cut : Cut pieces []
  pub whole : join pieces ≡ text
  pub ends : line_ends pieces true ≡ true

-- What is asked of the edits of a text with these tokens, from a place on: each range begins with a token and ends with
-- one, what replaces it stands alone, neighbours at a seam do not join (a period behind a name does not), and where a line ends behind a range its new
-- last token ends a statement exactly where its old one does. What is appended stands alone and begins with a newline.
abbrev pub Allows : ℕ → List Token → ℕ → Edits → List ℕ → Type 0
Allows file ts at (Rest kept) tail =
    (is_at_line_end tail ≡ true) × ((us : List Token) × (ds : List Span) × Lexes file tail us ds)
Allows file ts at (Edit kept old new edits) tail =
    (range : Spans ts (at + width kept) (at + width kept + width old))
    × (alone : Stands file new)
    × (are_apart kept (new ++ new_text edits tail) ≡ true)
    × (stands_apart file new alone (new_text edits tail) ≡ true)
    × (EndsLine (old_text edits) → ends_statement_kind range.last.kind ≡ ends_statement_kind alone.spans.last.kind)
    × Allows file ts (at + width kept + width old) edits tail

-- The parts of the edits.
abbrev pub Matches : Edits → List Part → Type 0
Matches (Rest kept) (Kept ps ∷ []) = join ps ≡ kept
Matches (Edit kept old new edits) (Kept ps ∷ Replaced a b ∷ parts) = (join ps ≡ kept) × (join (pieces_of a) ≡ old) × (join (pieces_of b) ≡ new) × Matches edits parts
Matches edits parts = ⊥

pub record PartsOf (edits : Edits) (tail : List ℕ) : Type 0 where
  pub parts : List Part
  pub tail_pieces : List (List ℕ)
  pub matches : Matches edits parts
  pub tail_is : join tail_pieces ≡ tail
  pub old_is : join (old_pieces parts) ≡ old_text edits
  pub new_is : join (new_pieces parts tail_pieces) ≡ new_text edits tail
  pub cut : Cut (old_pieces parts) []
  pub fits : Fits parts tail_pieces

-- The lexing of the new text: its tokens are the old ones with the ranges replaced, and those of the tail. The pieces of the
-- parts are those of the old text, and the pieces of each new range and of the tail are those that it has alone (`fits`).
pub record EditedLexing (file : ℕ) (edits : Edits) (tail : List ℕ) (ts : List Token) : Type 0 where
  pub parts : List Part
  pub tail_pieces : List (List ℕ)
  pub matches : Matches edits parts
  pub tail_is : join tail_pieces ≡ tail
  pub old_is : join (old_pieces parts) ≡ old_text edits
  pub new_is : join (new_pieces parts tail_pieces) ≡ new_text edits tail
  pub cut : Cut (old_pieces parts) []
  pub fits : Fits parts tail_pieces
  pub tokens : List Token
  pub comments : List Span
  pub lexes : Lexes file (new_text edits tail) tokens comments
  pub old : map (read (old_text edits)) ts ≡ spliced (λ old new. old) parts
  pub new : map (read (new_text edits tail)) tokens ≡ spliced (λ old new. new) parts ++ items tail_pieces true

-- The bytes of a file with its lexing, edits of its text that are allowed, and the bytes of the new text.
pub record AreFileEdits (file : ℕ) (edits : Edits) (tail old new : List ℕ) (ts : List Token) (cs : List Span) : Type 0 where
  pub old_bytes : IsText (old_text edits) old
  pub new_bytes : IsText (new_text edits tail) new
  pub lexing : IsLexing file old ts cs
  pub allowed : Allows file ts 0 edits tail

-- Whether each piece and what is behind it do not join.
abbrev pub all_apart : List (List ℕ) → Bool
all_apart [] = true
all_apart (p ∷ ps) = are_apart p (join ps) && all_apart ps

abbrev pub is_comment_line : PieceKind → Bool
is_comment_line LineComment = true
is_comment_line k = false

-- none is a line comment
abbrev pub has_no_line : List (List ℕ) → Bool
has_no_line [] = true
has_no_line (p ∷ ps) = not (is_comment_line (kind p)) && has_no_line ps
