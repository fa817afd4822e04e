-- What stands in a derived block or clause are statements.
use Rattle.std.proofs.Common.{◌≡◌, ℕ, Bool, true, false, List, [], ◌∷◌, refl, subst}
use Rattle.go_tokens.specs.declared.token.TokenKind.{TokenKind}
use Rattle.go_tokens.specs.declared.token.TokenKind.TheVariants as token
use Rattle.go_grammar.specs.declared.kind.Category.{Category}
use Rattle.go_grammar.specs.declared.kind.Category.TheVariants as category
use Rattle.go_grammar.specs.declared.kind.Kind.{Kind}
use Rattle.go_grammar.specs.declared.kind.Kind.TheVariants as kind
use Rattle.go_grammar.specs.declared.kind.Place.TheVariants as place
use Rattle.go_grammar.specs.Categories.{within}
use Rattle.go_grammar.specs.Grammar.{Derives, Spells, Goes}
use Rattle.go_grammar.specs.Rules.{Items, Lines, Open, Many, item}
use Rattle.go_grammar.specs.Trees.{Tree, node, Trees, none, more, skip, kind_of, last}
use Rattle.go_scopes_events.proofs.Public.{true_false}
use Rattle.go_scopes_bodies.specs.Listed.{is_specification, holds_statements, AreStatements}

module _ (ts : List TokenKind) where
  no_specification : (c : Category) (t : Tree) → ((k : Kind) → is_specification k ≡ true → within c k ≡ false) → Derives ts c t → is_specification (kind_of t) ≡ false
  no_specification c (node k i j ps) out h = by (is_specification k) refl
    where
      by : (b : Bool) → is_specification k ≡ b → is_specification k ≡ false
      by true e = absurd (true_false (within c k) h.0 (out k e))
      by false e = e

  statement_out : (k : Kind) → is_specification k ≡ true → within category.Statement k ≡ false
  statement_out (kind.Specification s) e = refl
  statement_out k e = absurd (true_false false e refl)

  expressions_out : (k : Kind) → is_specification k ≡ true → within (category.ExpressionList place.Free) k ≡ false
  expressions_out (kind.Specification s) e = refl
  expressions_out k e = absurd (true_false false e refl)

  is_statement : (t : Tree) → Derives ts category.Statement t → is_specification (kind_of t) ≡ false
  is_statement t h = no_specification category.Statement t statement_out h

  goes_on : (l : Items) → item l ≡ category.Statement → (ps : Trees) (i j : ℕ) → Goes ts l i ps j → AreStatements ps
  goes_on l e none i j h = tt
  goes_on l e (more p ps) i j h = (is_statement p (subst (λ c. Derives ts c p) e h.3), goes_on l e ps (last p) j h.4)
  goes_on l e (skip ps) i j h = absurd h

  many_statements : (ws : List TokenKind) (l : Items) → item l ≡ category.Statement → (ps : Trees) (i j : ℕ) → Spells ts (Many ws l) i ps j → AreStatements ps
  many_statements ws l e none i j h = tt
  many_statements ws l e (more p ps) i j h = (is_statement p (subst (λ c. Derives ts c p) e h.3), goes_on l e ps (last p) j h.4)
  many_statements ws l e (skip ps) i j h = absurd h

  pub lists_hold : (x : Category) (k : Kind) (i j : ℕ) (ps : Trees) → holds_statements k ≡ true → Derives ts x (node k i j ps) → AreStatements ps
  lists_hold x kind.Block i j ps e h = many_statements (token.LeftBrace ∷ []) (Lines true category.Statement token.Semicolon token.RightBrace) refl ps i j h.1
  lists_hold x kind.Default i j ps e h = many_statements (token.Default ∷ token.Colon ∷ []) (Open category.Statement token.Semicolon) refl ps i j h.1
  lists_hold x kind.Case i j none e h = absurd h.1
  lists_hold x kind.Case i j (skip ps) e h = absurd h.1
  lists_hold x kind.Case i j (more p ps) e h = (no_specification (category.ExpressionList place.Free) p expressions_out h.1.1, many_statements (token.Colon ∷ []) (Open category.Statement token.Semicolon) refl ps (last p) j h.1.2)
  lists_hold x k i j ps e h = absurd (true_false false e refl)
