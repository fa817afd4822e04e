-- Copied statements stand.
use Rattle.std.proofs.Common.{◌≡◌, ℕ, true, List, ◌++◌, length, refl, ap, ◌∙◌, subst}
use Rattle.go_tokens.specs.declared.token.Token.{Token}
use Rattle.go_tokens.specs.declared.token.TokenKind.{TokenKind}
use Rattle.go_tokens.specs.Spellings.{ends_statement_kind}
use Rattle.go_tokens.specs.Tokens.{kinds}
use Rattle.go_grammar.specs.Rules.{Items, item}
use Rattle.go_grammar.specs.Trees.{Trees}
use Rattle.go_rewriting.specs.Endings.{ends_well, Ending}
use Rattle.go_rewriting.specs.Excerpts.{Part, IsPart, ExcerptOf, ItemsInside, ItemsStand}
use Rattle.go_rewriting.specs.Lists.{in_block, in_clause}
use Rattle.go_rewriting.specs.Places.{carries}
use Rattle.go_rewriting.specs.Replacing.{moved, Run}
use Rattle.go_rewriting.specs.Rewriting.{IsRange}
use Rattle.go_print_laws.specs.Calls.{AreStatements, of_block, of_clause}
use Rattle.go_print_laws.specs.Functions.{CopiesStand}

-- what is known of parts of texts
pub record Parts : Type 0 where
  pub excerpts : (p : Part) (h : IsPart p) → ExcerptOf p h.range.last
  pub items : (p : Part) (last : Token) (e : ExcerptOf p last) (l : Items) (new : Trees) (next : List TokenKind) → ItemsInside p l new next → ItemsStand p last e l new next
  pub endings : (ts : List TokenKind) (l : Items) (new : Trees) (a b : ℕ) → ends_well (item l) ≡ true → Run ts l new a b → Ending ts b
  pub ranges : (ts : List Token) (from upto start end : ℕ) (r : IsRange ts from upto start end) → Ending (kinds ts) upto → ends_statement_kind r.last.kind ≡ true
  pub blocks : (ts : List TokenKind) (new : Trees) (a b : ℕ) → Run ts in_clause new a b → Run ts in_block new a b

in_blocks : Parts → (ts : List TokenKind) (l : Items) → AreStatements l → (new : Trees) (a b : ℕ) → Run ts l new a b → Run ts in_block new a b
in_blocks k ts l of_block new a b r = r
in_blocks k ts l of_clause new a b r = k.blocks ts new a b r

pub copies_stand : Parts → CopiesStand
copies_stand k p h l statements new order listed scalars plain =
    let run = in_blocks k (kinds p.tokens) l statements new p.from p.upto listed in
    let e = k.excerpts p h in
    record {
      text = p.inner;
      scalars = scalars;
      plain = plain;
      encoded = refl;
      stands = e.stands;
      kinds_are = e.kinds_are;
      closes = ap ends_statement_kind e.last_is ∙ k.ranges p.tokens p.from p.upto _ _ h.range (k.endings (kinds p.tokens) in_block new p.from p.upto refl run);
      run = λ next free. subst (λ ws. Run (ws ++ next) in_block (carries (moved p.from 0) new) 0 (length ws)) e.kinds_are
          (k.items p h.range.last e in_block new next (record { order = order; free = refl; run = run; plain = free }));
    }
