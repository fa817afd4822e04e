-- The lexing of a file's bytes, or its fault.
use Rattle.std.specs.Prelude.{◌≡◌, ℕ, ◌⊎◌, List, Option, Some, None, slice_get, slice_range}
use Rattle.go_base.specs.declared.Span.{Span}
use Rattle.go_base.specs.declared.Fault.{Fault}
use Rattle.go_tokens.specs.declared.token.Token.{Token}
use Rattle.go_tokens.specs.declared.token.TokenKind.{TokenKind}
use Rattle.go_tokens.specs.declared.error.LexError.{LexError}
use Rattle.go_tokens.specs.declared.error.LexError.TheVariants as errors
use Rattle.go_tokens.specs.Encoding.{IsText, IsEncodingFault}
use Rattle.go_tokens.specs.Lexing.{Lexes, IsTokenFault}

-- These are the tokens and comments of the file.
pub record IsLexing (file : ℕ) (bytes : List ℕ) (ts : List Token) (cs : List Span) : Type 0 where
  pub text : List ℕ
  pub is_text : IsText text bytes
  pub lexes : Lexes file text ts cs

-- A token of this kind is spelled so in a lexing of the bytes.
pub record HasToken (bytes : List ℕ) (kind : TokenKind) (spelled : List ℕ) : Type 0 where
  pub file : ℕ
  pub tokens : List Token
  pub comments : List Span
  pub number : ℕ
  pub found : Token
  pub lexing : IsLexing file bytes tokens comments
  pub is_found : slice_get tokens number ≡ Some found
  pub kind_is : found.kind ≡ kind
  pub spelled_is : slice_range bytes found.span.start found.span.end ≡ spelled

-- A fault of the tokens of the file, whose encoding has none.
pub record IsLaterFault (file : ℕ) (bytes : List ℕ) (fault : Fault) : Type 0 where
  pub text : List ℕ
  pub is_text : IsText text bytes
  pub is_fault : IsTokenFault file text fault

-- This is the fault of the file: its first one of the encoding, or else its first one of the tokens.
abbrev pub IsFault : ℕ → List ℕ → Fault → Type 0
IsFault file bytes fault = IsEncodingFault file bytes fault ⊎ IsLaterFault file bytes fault

-- the fault that an error names
abbrev pub lex_refusal : LexError → Option Fault
lex_refusal (errors.Fault fault) = Some fault
lex_refusal errors.Memory = None
