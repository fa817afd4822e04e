-- Trees of a text stand over an excerpt of it.
use Rattle.std.proofs.Common.{◌≡◌, ℕ, ◌+◌, ◌-◌, ◌<◌, ◌≤◌, Bool, true, false, not, List, ◌++◌, length, take, drop, sym, ap, ◌∙◌, subst, arith}
use Rattle.std.specs.Prelude.{slice_get}
use Rattle.std.proofs.lemmas.List.{length-take-le, length-drop}
use Rattle.go_tokens.specs.declared.token.TokenKind.{TokenKind}
use Rattle.go_tokens.specs.declared.token.TokenKind.TheVariants as token
use Rattle.go_tokens.specs.declared.token.Token.{Token}
use Rattle.go_tokens.specs.Tokens.{kinds}
use Rattle.go_grammar.specs.declared.kind.Category.{Category}
use Rattle.go_grammar.specs.Rules.{Items, item}
use Rattle.go_grammar.specs.Trees.{Tree, Trees, none, more, skip, first, last}
use Rattle.go_grammar.specs.Grammar.{result_words, Derives}
use Rattle.go_grammar.specs.Words.{is_word, is_among}
use Rattle.go_grammar.proofs.Public.{lies_within, and_both}
use Rattle.go_rewriting.specs.Replacing.{moved, Run}
use Rattle.go_rewriting.specs.Places.{carry, carries}
use Rattle.go_rewriting.specs.Lists.{no_clause, Elsewhere}
use Rattle.go_rewriting.proofs.Changes.{get_right, get_front, get_drop}
use Rattle.go_rewriting.proofs.Kept.{first_carry, last_carry}
use Rattle.go_rewriting.proofs.Mild.{text_elsewhere, run_elsewhere}
use Rattle.go_rewriting.specs.Rewriting.{own}
use Rattle.go_rewriting.specs.Excerpts.{Excerpt, is_plain}

-- so many tokens of a list, with others behind them
module _ (ks : List TokenKind) (from upto : ℕ) (order : from ≤ upto) (far : upto ≤ length ks) (next : List TokenKind) (plain : is_plain next ≡ true) where
  some_of : List TokenKind
  some_of = take (upto - from) (drop from ks)

  long : length (take (upto - from) (drop from ks)) ≡ upto - from
  long = let z : length (drop from ks) ≡ length ks - from = length-drop from ks in length-take-le (upto - from) (drop from ks) (omega (arith, z, far))

  same_at : (n : ℕ) → from ≤ n → n < upto → slice_get (take (upto - from) (drop from ks) ++ next) (moved from 0 n) ≡ slice_get ks n
  same_at n lo hi =
      let z : length (drop from ks) ≡ length ks - from = length-drop from ks in
      let place : moved from 0 n ≡ n - from = omega arith in
      let back : from + (n - from) ≡ n = omega (arith, lo) in
      ap (slice_get (take (upto - from) (drop from ks) ++ next)) place
      ∙ get_front (upto - from) (drop from ks) next (n - from) (omega (arith, lo, hi)) (omega (arith, z, far))
      ∙ get_drop from ks (n - from)
      ∙ ap (slice_get ks) back

  end_at : slice_get (take (upto - from) (drop from ks) ++ next) (moved from 0 upto) ≡ slice_get next 0
  end_at =
      let place : moved from 0 upto ≡ length (take (upto - from) (drop from ks)) + 0 = omega (arith, long) in
      ap (slice_get (take (upto - from) (drop from ks) ++ next)) place ∙ get_right (take (upto - from) (drop from ks)) next 0

  false_of : (b : Bool) → not b ≡ true → b ≡ true → ⊥
  false_of true h e = cc
  false_of false h e = cc

  elsewhere : Elsewhere ks (take (upto - from) (drop from ks) ++ next) from upto 0
  elsewhere =
      let both = and_both (not (is_word (slice_get next 0) token.LeftBrace)) (not (is_among (slice_get next 0) result_words)) plain in
      record {
        same = same_at;
        edge = record {
          brace = λ h. absurd (false_of (is_word (slice_get next 0) token.LeftBrace) both.0 (ap (λ w. is_word w token.LeftBrace) (sym end_at) ∙ h));
          result = λ n e closed h. absurd (false_of (is_among (slice_get next 0) result_words) both.1 (ap (λ w. is_among w result_words) (sym end_at) ∙ h));
        };
      }

run_far : (ts : List TokenKind) (l : Items) (new : Trees) (a b : ℕ) → Run ts l new a b → b ≤ length ts
run_far ts l none a b r = absurd r
run_far ts l (skip ps) a b r = absurd r
run_far ts l (more p none) a b r = omega (arith, r.2, (lies_within ts (item l) p r.1).1)
run_far ts l (more p (skip qs)) a b r = absurd r
run_far ts l (more p (more q qs)) a b r = run_far ts l (more q qs) (first q) b r.5

pub copied_run : (file : ℕ) (text : List ℕ) (ts : List Token) (from upto : ℕ) (end : Token) (inner : List ℕ) (e : Excerpt file text ts from upto end inner) (l : Items) (new : Trees) (next : List TokenKind) → from ≤ upto → no_clause (item l) ≡ true → Run (kinds ts) l new from upto → is_plain next ≡ true → Run (kinds (own e.stands.tokens) ++ next) l (carries (moved from 0) new) 0 (length (kinds (own e.stands.tokens)))
copied_run file text ts from upto end inner e l new next order free r plain =
    let ks : List TokenKind = kinds ts in
    let far : upto ≤ length (kinds ts) = run_far (kinds ts) l new from upto r in
    let there : Run (take (upto - from) (drop from (kinds ts)) ++ next) l (carries (moved from 0) new) 0 (moved from 0 upto) = run_elsewhere (kinds ts) (take (upto - from) (drop from (kinds ts)) ++ next) from upto 0 (elsewhere (kinds ts) from upto order far next plain) l new free r in
    let z : moved from 0 upto ≡ length (take (upto - from) (drop from (kinds ts))) = omega (arith, long (kinds ts) from upto order far next plain) in
    subst (λ ws. Run (ws ++ next) l (carries (moved from 0) new) 0 (length ws)) (sym e.kinds_are) (subst (λ n. Run (take (upto - from) (drop from (kinds ts)) ++ next) l (carries (moved from 0) new) 0 n) z there)

pub copied_text : (file : ℕ) (text : List ℕ) (ts : List Token) (from upto : ℕ) (end : Token) (inner : List ℕ) (e : Excerpt file text ts from upto end inner) (c : Category) (t : Tree) (next : List TokenKind) → from ≤ upto → no_clause c ≡ true → Derives (kinds ts) c t → first t ≡ from → last t ≡ upto → is_plain next ≡ true → Derives (kinds (own e.stands.tokens) ++ next) c (carry (moved from 0) t) × (first (carry (moved from 0) t) ≡ 0) × (last (carry (moved from 0) t) ≡ length (kinds (own e.stands.tokens)))
copied_text file text ts from upto end inner e c t next order free h begins ends plain =
    let far : upto ≤ length (kinds ts) = omega (arith, ends, (lies_within (kinds ts) c t h).1) in
    let there : Derives (take (upto - from) (drop from (kinds ts)) ++ next) c (carry (moved from 0) t) = text_elsewhere (kinds ts) (take (upto - from) (drop from (kinds ts)) ++ next) from upto 0 (elsewhere (kinds ts) from upto order far next plain) c t free (omega (arith, begins)) (omega (arith, ends)) h in
    let z : length (kinds (own e.stands.tokens)) ≡ upto - from = ap length e.kinds_are ∙ long (kinds ts) from upto order far next plain in
    (subst (λ ws. Derives (ws ++ next) c (carry (moved from 0) t)) (sym e.kinds_are) there, first_carry (moved from 0) t ∙ (omega (arith, begins)), last_carry (moved from 0) t ∙ (omega (arith, ends, z)))
