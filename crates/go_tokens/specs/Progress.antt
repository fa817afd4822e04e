-- What a lexer has of the tokens, behind some pieces.
use Rattle.std.specs.Prelude.{◌≡◌, ◌<◌, length, take, drop, true, false, ℕ, ◌+◌, if◌then◌else◌, List, [], ◌∷◌, ◌++◌, Option, Some, None}
use Rattle.go_base.specs.declared.Span.{Span}
use Rattle.go_base.specs.declared.Fault.{Fault}
use Rattle.go_tokens.specs.Encoding.{are_allowed, encoding_fault}
use Rattle.go_tokens.specs.declared.token.Token.{Token}
use Rattle.go_tokens.specs.declared.lexer.Lexer.{Lexer}
use Rattle.go_tokens.specs.Pieces.{kind}
use Rattle.go_tokens.specs.Rows.{all_in_file}
use Rattle.go_tokens.specs.Lexing.{is_token, is_break, is_comment_kind, ends_statement, width, span, token, token_kind, inserted}

pub record State : Type 0 where
  pub tokens : List Token
  pub comments : List Span
  -- the end of the last token, where a semicolon follows it if its line ends
  pub pending : Option ℕ

abbrev pub state : Lexer → State
state l = record { tokens = all_in_file l.file l.tokens.items; comments = l.comments.items; pending = l.pending }

abbrev pub due : ℕ → Option ℕ → List Token
due file None = []
due file (Some end) = inserted file end ∷ []

abbrev pub line_ended : ℕ → State → State
line_ended file s = record { tokens = s.tokens ++ due file s.pending; comments = s.comments; pending = None }

-- with the comment that a piece may be
abbrev pub noted : ℕ → ℕ → List ℕ → State → State
noted file at p s = record { tokens = s.tokens; comments = s.comments ++ (if is_comment_kind (kind p) then span file at (width p) ∷ [] else []); pending = s.pending }

-- with one more piece, which begins at a place
abbrev pub taken : ℕ → ℕ → List ℕ → State → State
taken file at p s =
    if is_token p
    then record { tokens = s.tokens ++ token file (token_kind p) at (width p) ∷ []; comments = s.comments; pending = if ends_statement p then Some (at + width p) else None }
    else (if is_break p then line_ended file (noted file at p s) else noted file at p s)

-- The fault of a character that is not allowed behind those before it.
pub record IsRefused (file : ℕ) (text : List ℕ) (fault : Fault) : Type 0 where
  pub index : ℕ
  pub within : index < length text
  pub before : are_allowed (take index text) ≡ true
  pub refused : are_allowed (take (index + 1) text) ≡ false
  pub place : fault ≡ encoding_fault file (width (take index text)) (width (take 1 (drop index text)))
