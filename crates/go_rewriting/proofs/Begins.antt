-- No text begins with a closing brace.
use Rattle.std.proofs.Common.{◌≡◌, Bool, true, false, List, Some, refl, subst}
use Rattle.std.specs.Prelude.{if◌then◌else◌}
use Rattle.go_tokens.specs.declared.token.TokenKind.{TokenKind}
use Rattle.go_tokens.specs.declared.token.TokenKind.TheVariants as token
use Rattle.go_grammar.specs.declared.kind.Category.{Category}
use Rattle.go_grammar.specs.Trees.{Tree, first}
use Rattle.go_grammar.specs.Grammar.{IsAt, Derives}
use Rattle.go_grammar.specs.Reader.{begins}
use Rattle.go_grammar.proofs.Public.{all, categories, categories_at, begins_at}

abbrev not_begun : Category → Bool
not_begun c = if begins c (Some token.RightBrace) then false else true

none_begun : all not_begun categories ≡ true
none_begun = refl

not_of : (b : Bool) → (if b then false else true) ≡ true → b ≡ false
not_of true h = cc
not_of false h = refl

brace_begins : (c : Category) → begins c (Some token.RightBrace) ≡ false
brace_begins c = not_of (begins c (Some token.RightBrace)) (categories_at not_begun none_begun c)

module _ (ts : List TokenKind) where
  -- no closing brace stands where a derivation begins
  pub no_brace_begins : (s : Tree) (d : Category) → Derives ts d s → IsAt ts (first s) token.RightBrace → ⊥
  no_brace_begins s d h at =
      let yes : begins d (Some token.RightBrace) ≡ true = subst (λ w. begins d w ≡ true) at (begins_at ts s d h) in
      let no : begins d (Some token.RightBrace) ≡ false = brace_begins d in
      cc
