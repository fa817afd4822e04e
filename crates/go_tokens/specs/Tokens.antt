-- The tokens of a file as contracts see them.
use Rattle.std.specs.Prelude.{ℕ, ◌<◌, ◌≤◌, ◌^◌, Bool, ◌&&◌, nat_le, List, [], ◌∷◌, length, map, slice_range}
use Rattle.go_base.specs.declared.Span.{Span}
use Rattle.go_tokens.specs.declared.token.TokenKind.{TokenKind}
use Rattle.go_tokens.specs.declared.token.Token.{Token}

-- A file's number and bytes, its tokens in order, and its comments in order.
pub record TokenList : Type 0 where
  pub file : ℕ
  pub text : List ℕ
  pub tokens : List Token
  pub comments : List Span

abbrev pub kind_of : Token → TokenKind
kind_of t = t.kind

-- The kinds of tokens: all that the grammar sees of them.
abbrev pub kinds : List Token → List TokenKind
kinds ts = map kind_of ts

-- whether a comment lies between two offsets
abbrev pub are_between : ℕ → ℕ → Span → Bool
are_between start end comment = nat_le start comment.start && nat_le comment.end end

-- the bytes of a token
abbrev pub text_of : TokenList → Token → List ℕ
text_of l t = slice_range l.text t.span.start t.span.end

-- Spans from one place to another, each before the next.
abbrev pub AreOrdered : ℕ → List Span → ℕ → Type 0
AreOrdered start [] end = start ≤ end
AreOrdered start (s ∷ ss) end = (start ≤ s.start) × (s.start ≤ s.end) × AreOrdered s.end ss end

abbrev pub span_of : Token → Span
span_of t = t.span

-- What every Tokens meets: the spans of its tokens, and those of its comments, are in order within the text.
pub record IsTokenList (l : TokenList) : Type 0 where
  pub short : length l.text ≤ 1048576
  pub few : length l.tokens < 2 ^ 32
  pub few_comments : length l.comments < 2 ^ 32
  pub tokens : AreOrdered 0 (map span_of l.tokens) (length l.text)
  pub comments : AreOrdered 0 l.comments (length l.text)
