-- Typed trees whose nodes lie in the order of their tokens.
use Rattle.std.specs.Prelude.{◌≡◌, ℕ, ◌-◌, ◌<◌, ◌≤◌, Bool, true, false, List}
use Rattle.go_grammar.specs.declared.kind.Category.{Category}
use Rattle.go_grammar.specs.declared.kind.Kind.{Kind}
use Rattle.go_grammar.specs.declared.kind.Kind.TheVariants as kind
use Rattle.go_grammar.specs.declared.kind.Sort.TheVariants as declaring
use Rattle.go_grammar.specs.Grammar.{Derives}
use Rattle.go_grammar.specs.Trees.{Tree, kind_of, first, last}
use Rattle.go_tokens.specs.declared.token.TokenKind.{TokenKind}
use Rattle.go_types.specs.Trees.{TypeTree}
use Rattle.go_typed.specs.Trees.{Typed, typed, Typeds, none, more, skip, last_of}
use Rattle.go_exprs_rules.specs.Scopes.{Hint}
use Rattle.go_stmts_defs.specs.Bodies.{based}
use Rattle.go_stmts_defs.specs.Frames.{Frame}
use Rattle.go_stmts_defs.specs.Reading.{Found, read, reading}

abbrev mutual
  -- The tokens of the tree lie from a up to b, those of its parts one behind the other, and each node has a token at least.
  pub Lies : (a b : ℕ) → Typed TypeTree → Type 0
  Lies a b (typed f i j l ps) = (a ≤ i) × (i < j) × (j ≤ b) × AllLie i j ps

  pub AllLie : (a b : ℕ) → Typeds TypeTree → Type 0
  AllLie a b none = a ≤ b
  AllLie a b (more p ps) = Lies a b p × AllLie (last_of p) b ps
  AllLie a b (skip ps) = AllLie a b ps

-- Nodes that declare constants or types inside a declaration (Go specification: Constant declarations, Type declarations). A specification of
-- constants may have the values of one in front of it, and the declaration keeps their names alone.
abbrev pub is_inner : Kind → Bool
is_inner (kind.Specification declaring.Constant) = true
is_inner (kind.Specification declaring.Type) = true
is_inner (kind.Group declaring.Constant) = true
is_inner (kind.Group declaring.Type) = true
is_inner k = false

-- What is read of a derivation, whose tokens are counted from the token b on, lies so among its tokens, types and constants included.
abbrev pub ReadNodesLie : Type 0
ReadNodesLie = (ts : List TokenKind) (c : Category) (t : Tree) (b : ℕ) (s : Frame) (h : Hint) (x : Typed TypeTree) (fs : Found) (behind : Frame) →
    Derives ts c t → b ≤ first t → is_inner (kind_of t) ≡ false → reading s h (based b t) ≡ read x fs behind → Lies (first t - b) (last t - b) x
