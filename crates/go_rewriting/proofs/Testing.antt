-- Tests by which an example's premises are computed.
use Rattle.std.proofs.Common.{◌≡◌, ℕ, zero, suc, Bool, true, false, List, Option, Some, None, refl, sym, ap, ◌∙◌, subst, eqb-true, arith}
use Rattle.std.specs.Prelude.{slice_get, ◌&&◌, ◌==◌}
use Rattle.std.proofs.lemmas.Bool.{ltb-true}
use Rattle.go_tokens.specs.declared.token.Token.{Token}
use Rattle.go_tokens.specs.declared.token.TokenKind.{TokenKind}
use Rattle.go_tokens.specs.declared.token.TokenKind.TheVariants as token
use Rattle.go_tokens.specs.Editing.{IsWritten}
use Rattle.go_grammar.specs.declared.kind.Category.{Category}
use Rattle.go_grammar.specs.declared.kind.Category.TheVariants as category
use Rattle.go_grammar.specs.Rules.{Items}
use Rattle.go_grammar.specs.Trees.{Tree, Trees, none, more, skip, first, last}
use Rattle.go_grammar.specs.Grammar.{IsAt, Only, Derives}
use Rattle.go_grammar.specs.Words.{is_word}
use Rattle.go_grammar.proofs.Public.{and_both, read_stands, at-is_word}
use Rattle.go_rewriting.specs.Replacing.{Edge, Run}
use Rattle.go_rewriting.specs.Lists.{in_block, in_clause}
use Rattle.go_rewriting.specs.Readings.{statement_at, statements, read_at}
use Rattle.go_rewriting.specs.Rewriting.{is_written}

pub written : (t : Token) → is_written t ≡ true → IsWritten t
written t h = ltb-true t.span.start t.span.end h

-- do they end here
abbrev pub statements_end : ℕ → Option Tree → List TokenKind → ℕ → Bool
statements_end zero None ts j = false
statements_end (suc n) None ts j = false
statements_end zero (Some p) ts j = last p == j
statements_end (suc n) (Some p) ts j = is_word (slice_get ts (last p)) token.Semicolon && statements_end n (statement_at ts (suc (last p))) ts j

-- those of a block or a clause
abbrev pub listed_in : Bool → Items
listed_in true = in_block
listed_in false = in_clause

module _ (ts : List TokenKind) where
  found : (i : ℕ) (p : Tree) → Some p ≡ statement_at ts i → Derives ts category.Statement p × (first p ≡ i)
  found i p e = let r = read_stands ts 60 60 category.Statement i p (sym e) in (r.0, r.1)

  nothing_between : (i : ℕ) → Only ts token.Semicolon i i
  nothing_between i = record { order = omega arith; each = λ k lo hi. absurd (omega (arith, lo, hi)) }

  -- a statement and a semicolon in front of a run
  one_more : (b : Bool) (p : Tree) (new : Trees) (i j : ℕ) → Derives ts category.Statement p × (first p ≡ i) → IsAt ts (last p) token.Semicolon → Run ts (listed_in b) new (suc (last p)) j → Run ts (listed_in b) (more p new) i j
  one_more b p none i j f at r = absurd r
  one_more b p (skip qs) i j f at r = absurd r
  one_more true p (more q none) i j f at r = (f.1, f.0, suc (last p), (at, refl), subst (Only ts token.Semicolon (suc (last p))) (sym r.0) (nothing_between (suc (last p))), (refl, r.1, r.2))
  one_more false p (more q none) i j f at r = (f.1, f.0, suc (last p), (at, refl), subst (Only ts token.Semicolon (suc (last p))) (sym r.0) (nothing_between (suc (last p))), (refl, r.1, r.2))
  one_more b p (more q (skip qs)) i j f at r = absurd r
  one_more true p (more q (more w ws)) i j f at r = (f.1, f.0, suc (last p), (at, refl), subst (Only ts token.Semicolon (suc (last p))) (sym r.0) (nothing_between (suc (last p))), (refl, r.1, r.2, r.3, r.4, r.5))
  one_more false p (more q (more w ws)) i j f at r = (f.1, f.0, suc (last p), (at, refl), subst (Only ts token.Semicolon (suc (last p))) (sym r.0) (nothing_between (suc (last p))), (refl, r.1, r.2, r.3, r.4, r.5))

  one_alone : (b : Bool) (p : Tree) (i j : ℕ) → Derives ts category.Statement p × (first p ≡ i) → last p ≡ j → Run ts (listed_in b) (more p none) i j
  one_alone true p i j f e = (f.1, f.0, e)
  one_alone false p i j f e = (f.1, f.0, e)

  pub statements_run : (b : Bool) (n : ℕ) (o : Option Tree) (i j : ℕ) → o ≡ statement_at ts i → statements_end n o ts j ≡ true → Run ts (listed_in b) (statements n o ts) i j
  statements_run b zero None i j e h = cc
  statements_run b (suc n) None i j e h = cc
  statements_run b zero (Some p) i j e h = one_alone b p i j (found i p e) (eqb-true (last p) j h)
  statements_run b (suc n) (Some p) i j e h =
      let x = and_both (is_word (slice_get ts (last p)) token.Semicolon) (statements_end n (statement_at ts (suc (last p))) ts j) h in
      one_more b p (statements n (statement_at ts (suc (last p))) ts) i j (found i p e) (at-is_word (slice_get ts (last p)) token.Semicolon x.0) (statements_run b n (statement_at ts (suc (last p))) (suc (last p)) j refl x.1)

-- the token in front
abbrev pub in_front : ℕ → List TokenKind → Option TokenKind
in_front zero ts = None
in_front (suc n) ts = slice_get ts n

-- a new text that begins with no brace, behind no parenthesis
pub plain_edge : (ts ws : List TokenKind) (i : ℕ) → is_word (slice_get ws 0) token.LeftBrace ≡ false → is_word (in_front i ts) token.RightParenthesis ≡ false → Edge ts ws i 0
plain_edge ts ws i brace closed = record {
  brace = λ h. cc;
  result = λ n next at h. absurd (clash i n next closed at);
}
  where
    clash : (i n : ℕ) → suc n ≡ i → is_word (in_front i ts) token.RightParenthesis ≡ false → IsAt ts n token.RightParenthesis → ⊥
    clash zero n e h at = absurd (omega (arith, e))
    clash (suc i) n e h at =
        let same : n ≡ i = omega (arith, e) in
        let here : is_word (slice_get ts i) token.RightParenthesis ≡ true = ap (λ w. is_word w token.RightParenthesis) (ap (slice_get ts) (sym same) ∙ at) in
        cc

pub read_fits : (ts : List TokenKind) (c : Category) (s : Tree) (n : ℕ) → read_at ts c ≡ Some s → last s ≡ n → Derives ts c s × (first s ≡ 0) × (last s ≡ n)
read_fits ts c s n e l = let r = read_stands ts 60 60 c 0 s e in (r.0, r.1, l)
