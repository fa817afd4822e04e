-- That literals read as the lexer leaves them.
use Rattle.std.specs.Prelude.{◌≡◌, ℕ, true, List}
use Rattle.std.specs.Str.{IsUtf8, chars}
use Rattle.go_grammar.specs.declared.kind.Kind.{Kind}
use Rattle.go_grammar.specs.declared.kind.Kind.TheVariants as kind
use Rattle.go_grammar.specs.Trees.{Tree, node, Trees, none, more, skip}
use Rattle.go_tokens.specs.Literals.{is_one, rune_elements}

-- a rune literal is UTF-8 and has one character, a string literal is UTF-8
abbrev pub Reads : (ℕ → List ℕ) → Kind → ℕ → Type 0
Reads texts kind.Rune i = IsUtf8 (texts i) × (is_one (rune_elements (chars (texts i))) ≡ true)
Reads texts kind.Text i = IsUtf8 (texts i)
Reads texts k i = Unit {0}

abbrev mutual
  -- so are all of a tree
  pub AllRead : (ℕ → List ℕ) → Tree → Type 0
  AllRead texts (node k i j ps) = Reads texts k i × PartsRead texts ps

  pub PartsRead : (ℕ → List ℕ) → Trees → Type 0
  PartsRead texts none = Unit {0}
  PartsRead texts (more p ps) = AllRead texts p × PartsRead texts ps
  PartsRead texts (skip ps) = PartsRead texts ps
