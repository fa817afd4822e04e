-- The bytes of nodes and tokens.
use Rattle.std.specs.Prelude.{ℕ, ◌-◌, Option, Some, None, List, slice_get}
use Rattle.std.specs.Option.{option_map}
use Rattle.go_base.specs.declared.Span.{Span}
use Rattle.go_tokens.specs.declared.token.Token.{Token}
use Rattle.go_tokens.specs.Tokens.{TokenList, span_of, text_of}
use Rattle.go_grammar.specs.declared.kind.Kind.{Kind}
use Rattle.go_grammar.specs.declared.kind.Kind.TheVariants as kind
use Rattle.go_base.specs.Optional.{◌>>=◌}
use Rattle.go_grammar.specs.Trees.{Tree, kind_of, first, last}

-- the place of the token of this number
abbrev pub span_at : List Token → ℕ → Option Span
span_at ts i = option_map span_of (slice_get ts i)

-- the bytes of the token of this number
abbrev pub token_text : TokenList → ℕ → Option (List ℕ)
token_text l i = option_map (text_of l) (slice_get l.tokens i)

-- the token of a node that is a name or a literal
abbrev pub leaf_by : Kind → Tree → Option ℕ
leaf_by kind.Name t = Some (first t)
leaf_by kind.DeclaredName t = Some (first t)
leaf_by kind.Integer t = Some (first t)
leaf_by kind.Rune t = Some (first t)
leaf_by kind.Text t = Some (first t)
leaf_by kind.ImportPath t = Some (first t)
leaf_by k t = None

abbrev pub leaf_token : Tree → Option ℕ
leaf_token t = leaf_by (kind_of t) t

-- the bytes of a name or a literal: those of its token
abbrev pub leaf_text : TokenList → Tree → Option (List ℕ)
leaf_text l t = leaf_token t >>= λ token. token_text l token

-- The bytes of a node: from the first byte of its first token, up to behind the last byte of its last token.
abbrev pub start_of : List Token → Tree → Option ℕ
start_of ts t = option_map (λ w. w.span.start) (slice_get ts (first t))

abbrev pub end_of : List Token → Tree → Option ℕ
end_of ts t = option_map (λ w. w.span.end) (slice_get ts (last t - 1))

abbrev pub file_of : List Token → Tree → Option ℕ
file_of ts t = option_map (λ w. w.span.file) (slice_get ts (first t))
