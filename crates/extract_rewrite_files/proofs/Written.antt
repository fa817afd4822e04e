-- Statements and expressions of a lexed text begin with a written token and end with one.
use Rattle.std.proofs.Common.{◌≡◌, ℕ, zero, suc, ◌-◌, ◌<◌, inl, inr, Bool, true, false, List, [], ◌∷◌, Option, Some, None, refl, sym, ap, ◌∙◌, subst, arith}
use Rattle.std.specs.Prelude.{slice_get}
use Rattle.go_base.specs.declared.Span.{Span}
use Rattle.go_tokens.specs.declared.token.Token.{Token}
use Rattle.go_tokens.specs.declared.token.TokenKind.{TokenKind}
use Rattle.go_tokens.specs.declared.token.TokenKind.TheVariants as token
use Rattle.go_tokens.specs.Editing.{IsWritten}
use Rattle.go_tokens.specs.Lexing.{Lexes}
use Rattle.go_tokens.specs.Spellings.{ends_statement_kind}
use Rattle.go_tokens.specs.Tokens.{kinds}
use Rattle.go_grammar.specs.declared.kind.Category.{Category}
use Rattle.go_grammar.specs.Grammar.{Derives}
use Rattle.go_grammar.specs.Reader.{begins}
use Rattle.go_grammar.specs.Rules.{Items, item}
use Rattle.go_grammar.specs.Trees.{Tree, Trees, none, more, skip, first, last}
use Rattle.go_grammar.proofs.Public.{begins_at, between_order, derives_grows, gap_order}
use Rattle.go_rewriting.specs.Endings.{Ending, ends_well}
use Rattle.go_rewriting.specs.Replacing.{Run}
use Rattle.go_rewriting.specs.Rewriting.{IsRange}
use Rattle.go_tree.specs.Units.{end_in, start_in}
use Rattle.extract_rewrite_files.proofs.Splits.{token_of}

abbrev neither : Bool → Bool → Bool
neither true b = false
neither false true = false
neither false false = true

-- texts of these begin with a token, and with no semicolon
abbrev pub begins_well : Category → Bool
begins_well c = neither (begins c None) (begins c (Some token.Semicolon))

not_first : (a b : Bool) → neither a b ≡ true → a ≡ true → ⊥
not_first true b h e = cc
not_first false b h e = cc

not_second : (a b : Bool) → neither a b ≡ true → b ≡ true → ⊥
not_second true b h e = cc
not_second false true h e = cc
not_second false false h e = cc

kind_there : (ts : List Token) (k : ℕ) (t : Token) → slice_get ts k ≡ Some t → slice_get (kinds ts) k ≡ Some t.kind
kind_there [] k t e = cc
kind_there (u ∷ ts) zero t e = cc
kind_there (u ∷ ts) (suc k) t e = kind_there ts k t e

nothing_there : (ts : List Token) (k : ℕ) → slice_get ts k ≡ None → slice_get (kinds ts) k ≡ None
nothing_there [] k e = refl
nothing_there (u ∷ ts) zero e = cc
nothing_there (u ∷ ts) (suc k) e = nothing_there ts k e

ends_none : (k w : TokenKind) (x : Option TokenKind) → k ≡ token.Semicolon → x ≡ Some k → x ≡ Some w → ends_statement_kind w ≡ true → ⊥
ends_none k w x s e f h = let same : w ≡ token.Semicolon = cc in let no : ends_statement_kind token.Semicolon ≡ true = subst (λ v. ends_statement_kind v ≡ true) same h in cc

-- A written token of this number.
pub record WrittenAt (ts : List Token) (k : ℕ) : Type 0 where
  pub token : Token
  pub is : slice_get ts k ≡ Some token
  pub written : IsWritten token

module _ (file : ℕ) (text : List ℕ) (ts : List Token) (cs : List Span) (l : Lexes file text ts cs) where
  no_semicolon : (k : ℕ) (t : Token) → slice_get ts k ≡ Some t → (t.kind ≡ token.Semicolon → ⊥) → IsWritten t
  no_semicolon k t e other = elim (token_of file text ts cs l k t e).written [ inl s ↦ absurd (other s) | inr w ↦ w ]

  pub first_written : (c : Category) (t : Tree) → begins_well c ≡ true → Derives (kinds ts) c t → WrittenAt ts (first t)
  first_written c t b d = by (slice_get ts (first t)) refl (begins_at (kinds ts) t c d)
    where
      by : (o : Option Token) → slice_get ts (first t) ≡ o → begins c (slice_get (kinds ts) (first t)) ≡ true → WrittenAt ts (first t)
      by None e h = absurd (not_first (begins c None) (begins c (Some token.Semicolon)) b (subst (λ w. begins c w ≡ true) (nothing_there ts (first t) e) h))
      by (Some u) e h = record {
        token = u;
        is = e;
        written = no_semicolon (first t) u e (λ s. not_second (begins c None) (begins c (Some token.Semicolon)) b (subst (λ w. begins c w ≡ true) (kind_there ts (first t) u e ∙ ap Some s) h));
      }

  pub last_written : (n : ℕ) → Ending (kinds ts) n → WrittenAt ts (n - 1)
  last_written n h = by (slice_get ts h.place) refl h.is
    where
      same : h.place ≡ n - 1
      same = let e = h.next in omega (arith, e)

      by : (o : Option Token) → slice_get ts h.place ≡ o → slice_get (kinds ts) h.place ≡ Some h.word → WrittenAt ts (n - 1)
      by None e a = absurd (let z = nothing_there ts h.place e in cc)
      by (Some u) e a = record {
        token = u;
        is = ap (slice_get ts) (sym same) ∙ e;
        written = no_semicolon h.place u e (λ s. ends_none u.kind h.word (slice_get (kinds ts) h.place) s (kind_there ts h.place u e) a h.ends);
      }

  pub range_of : (from upto : ℕ) → from < upto → (f : WrittenAt ts from) → (u : WrittenAt ts (upto - 1)) → IsRange ts from upto f.token.span.start u.token.span.end
  range_of from upto order f u = record {
    first = f.token;
    last = u.token;
    order = order;
    has_first = f.is;
    has_last = u.is;
    first_written = f.written;
    last_written = u.written;
    begins = refl;
    ends = refl;
  }

-- a run has an item, and each has a token
pub run_grows : (ts : List TokenKind) (l : Items) (new : Trees) (i j : ℕ) → Run ts l new i j → i < j
run_grows ts l none i j r = absurd r
run_grows ts l (skip ps) i j r = absurd r
run_grows ts l (more p none) i j r = let a = r.0 in let b = r.2 in omega (arith, a, b, derives_grows ts p (item l) r.1)
run_grows ts l (more p (skip qs)) i j r = absurd r
run_grows ts l (more p (more q qs)) i j r =
    let a = r.0 in
    let k = r.2 in
    let rest = run_grows ts l (more q qs) (first q) j r.5 in
    omega (arith, a, rest, derives_grows ts p (item l) r.1, between_order ts l (last p) r.2 r.3, gap_order ts l r.2 (first q) r.4)

pub first_of_run : (ts : List TokenKind) (l : Items) (new : Trees) (i j : ℕ) → Run ts l new i j → (p : Tree) × (first p ≡ i) × Derives ts (item l) p
first_of_run ts l none i j r = absurd r
first_of_run ts l (skip ps) i j r = absurd r
first_of_run ts l (more p none) i j r = (p, r.0, r.1)
first_of_run ts l (more p (skip qs)) i j r = absurd r
first_of_run ts l (more p (more q qs)) i j r = (p, r.0, r.1)

-- ---- runs and trees

abbrev pub RunsEndWell : Type 0
RunsEndWell = (ts : List TokenKind) (l : Items) (new : Trees) (a b : ℕ) → ends_well (item l) ≡ true → Run ts l new a b → Ending ts b

abbrev pub TextsEndWell : Type 0
TextsEndWell = (ts : List TokenKind) (c : Category) (t : Tree) → ends_well c ≡ true → Derives ts c t → Ending ts (last t)

module _ (file : ℕ) (text : List ℕ) (ts : List Token) (cs : List Span) (l : Lexes file text ts cs) where
  shown : (from upto : ℕ) (f : WrittenAt ts from) (u : WrittenAt ts (upto - 1)) → IsRange ts from upto f.token.span.start u.token.span.end → IsRange ts from upto (start_in (slice_get ts from)) (end_in (slice_get ts (upto - 1)))
  shown from upto f u r = subst (λ x. IsRange ts from upto x (end_in (slice_get ts (upto - 1)))) (ap start_in (sym f.is)) (subst (λ x. IsRange ts from upto f.token.span.start x) (ap end_in (sym u.is)) r)

  -- the tokens of a run
  pub run_range_of : RunsEndWell → (items : Items) (new : Trees) (from upto : ℕ) → begins_well (item items) ≡ true → ends_well (item items) ≡ true → Run (kinds ts) items new from upto
      → IsRange ts from upto (start_in (slice_get ts from)) (end_in (slice_get ts (upto - 1)))
  run_range_of law items new from upto b e r =
      let p = first_of_run (kinds ts) items new from upto r in
      let f : WrittenAt ts from = subst (WrittenAt ts) p.1 (first_written file text ts cs l (item items) p.0 b p.2) in
      let u = last_written file text ts cs l upto (law (kinds ts) items new from upto e r) in
      shown from upto f u (range_of file text ts cs l from upto (run_grows (kinds ts) items new from upto r) f u)

  -- those of a tree
  pub tree_range_of : TextsEndWell → (c : Category) (t : Tree) → begins_well c ≡ true → ends_well c ≡ true → Derives (kinds ts) c t
      → IsRange ts (first t) (last t) (start_in (slice_get ts (first t))) (end_in (slice_get ts (last t - 1)))
  tree_range_of law c t b e d =
      let f = first_written file text ts cs l c t b d in
      let u = last_written file text ts cs l (last t) (law (kinds ts) c t e d) in
      shown (first t) (last t) f u (range_of file text ts cs l (first t) (last t) (derives_grows (kinds ts) t c d) f u)
