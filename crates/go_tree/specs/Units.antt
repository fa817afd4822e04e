-- The files of a package as names see them, with their words and bytes.
use Rattle.std.specs.Prelude.{ℕ, suc, ◌-◌, max, Bool, List, [], slice_get, Option, Some, None, codes}
use Rattle.go_tokens.specs.Tokens.{TokenList, text_of}
use Rattle.go_tokens.specs.Spellings.{same_text}
use Rattle.go_tokens.specs.declared.token.Token.{Token}
use Rattle.go_tree.specs.declared.event.Event.{Event}

-- A file: its tokens, and what its tree has to do with names.
pub record Unit : Type 0 where
  pub tokens : TokenList
  pub events : List Event

-- the text of a token that may be there
abbrev pub text_in : TokenList → Option Token → List ℕ
text_in ts None = []
text_in ts (Some t) = text_of ts t

-- the text of the token of this number
abbrev pub word : TokenList → ℕ → List ℕ
word ts n = text_in ts (slice_get ts.tokens n)

abbrev pub is_blank : List ℕ → Bool
is_blank w = same_text w (codes "_")

abbrev pub is_fmt : List ℕ → Bool
is_fmt w = same_text w (codes "fmt")

-- bytes of a file: its number, and from where to where
pub record Place : Type 0 where
  pub file : ℕ
  pub start : ℕ
  pub end : ℕ

-- where a token begins and ends
abbrev pub start_in : Option Token → ℕ
start_in None = 0
start_in (Some t) = t.span.start

abbrev pub end_in : Option Token → ℕ
end_in None = 0
end_in (Some t) = t.span.end

-- The bytes of the tokens from i up to j, in the file n. No place ends before it begins.
abbrev pub bytes_of : ℕ → TokenList → ℕ → ℕ → Place
bytes_of n ts i j = record { file = n; start = start_in (slice_get ts.tokens i); end = max (start_in (slice_get ts.tokens i)) (end_in (slice_get ts.tokens (j - 1))) }

-- the bytes of one token
abbrev pub bytes_at : ℕ → TokenList → ℕ → Place
bytes_at n ts i = bytes_of n ts i (suc i)
