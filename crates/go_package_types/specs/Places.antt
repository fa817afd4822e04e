-- Where the nodes of specifications stand, by tokens and by bytes.
use Rattle.std.specs.Prelude.{◌≡◌, ℕ, ◌-◌, Bool, true, false, ◌&&◌, ◌||◌, nat_eq, nat_lt, List, [], ◌∷◌, Option, Some, None, slice_get}
use Rattle.go_grammar.specs.Trees.{Tree}
use Rattle.go_tokens.specs.Tokens.{TokenList}
use Rattle.go_tokens.specs.declared.token.Token.{Token}
use Rattle.go_package_defs.specs.Declarations.{Specification}
use Rattle.go_package_laws.specs.Places.{EachNode}

-- a token that there is and that has bytes, as each has but an inserted semicolon
abbrev pub has_bytes : Option Token → Bool
has_bytes (Some t) = nat_lt t.span.start t.span.end
has_bytes None = false

-- The tokens from i up to j begin and end with such tokens; or there are none, in front of such a token.
abbrev pub stands : TokenList → ℕ → ℕ → Bool
stands ts i j = has_bytes (slice_get ts.tokens i) && nat_lt 0 i && (nat_eq i j || (nat_lt i j && has_bytes (slice_get ts.tokens (j - 1))))

abbrev pub PartStands : (ℕ → ℕ → Bool) → Option Tree → Type 0
PartStands q None = Unit {0}
PartStands q (Some t) = EachNode q t

abbrev pub EachStands : (ℕ → ℕ → Bool) → List Tree → Type 0
EachStands q [] = Unit {0}
EachStands q (t ∷ ts) = EachNode q t × EachStands q ts

-- So stands a specification, with its type and its values.
pub record SpecificationStands (q : ℕ → ℕ → Bool) (d : Specification) : Type 0 where
  pub itself : q d.first d.last ≡ true
  pub of : PartStands q d.type_tree
  pub values : EachStands q d.values
