-- A declaration at the end of a file of whatever depth.
use Rattle.std.proofs.Common.{◌≡◌, ℕ, suc, ◌<◌, ◌≤◌, ap, inl, inr, true, List, [], ◌∷◌, refl, sym, ◌∙◌, subst, length, arith}
use Rattle.std.specs.Prelude.{slice_get}
use Rattle.go_tokens.specs.declared.token.TokenKind.{TokenKind}
use Rattle.go_tokens.specs.declared.token.TokenKind.TheVariants as token
use Rattle.go_grammar.specs.declared.kind.Kind.{Kind}
use Rattle.go_grammar.specs.declared.kind.Kind.TheVariants as kind
use Rattle.go_grammar.specs.declared.kind.Category.{Category}
use Rattle.go_grammar.specs.declared.kind.Category.TheVariants as category
use Rattle.go_grammar.specs.Categories.{within, place_of}
use Rattle.go_grammar.specs.Rules.{Items, Each, Many}
use Rattle.go_grammar.specs.Trees.{Tree, node, Trees, none, more, skip, first, kind_of, last, onto, weight}
use Rattle.go_grammar.specs.Grammar.{rule, IsAt, Words, Derives, Spells, Goes}
use Rattle.go_grammar.proofs.Public.{words_order, derives_order, spells_order, goes_order}
use Rattle.go_rewriting.specs.Places.{carry, carries, with_declaration}
use Rattle.go_rewriting.specs.Lists.{InOrder, Ordered}
use Rattle.go_rewriting.proofs.Public.{derives_kept, derives_ordered, row_order, soft_same}
use Rattle.extract_files.specs.Levels.{IsFileTree}

-- a tree in front of all that moves stays as it is
module _ (m : ℕ → ℕ) (big : ℕ) (still : (n : ℕ) → n ≤ big → m n ≡ n) where
  mutual
    carry_still : (t : Tree) → InOrder t → last t ≤ big → carry m t ≡ t
    carry_still (node k a b ps) h le =
        let on : a < b = h.0 in
        ap (λ x. node k x (m b) (carries m ps)) (still a (omega (arith, on, le))) ∙ ap (λ x. node k a x (carries m ps)) (still b le) ∙ ap (λ zs. node k a b zs) (carries_still ps a b h.1 le)

    carries_still : (ps : Trees) (i j : ℕ) → Ordered i ps j → j ≤ big → carries m ps ≡ ps
    carries_still none i j h le = refl
    carries_still (more p ps) i j h le =
        let off : last p ≤ j = row_order ps (last p) j h.2 in
        ap (λ x. more x (carries m ps)) (carry_still p h.1 (omega (arith, off, le))) ∙ ap (λ zs. more p zs) (carries_still ps (last p) j h.2 le)
    carries_still (skip ps) i j h le = ap skip (carries_still ps i j h le)

abbrev lines_of : Category → Items
lines_of c = Each c (token.Semicolon ∷ []) []

file_kind : (k : Kind) → within category.File k ≡ true → k ≡ kind.File
file_kind kind.File h = refl
file_kind _ h = cc

imports_kind : (k : Kind) → within category.Imports k ≡ true → k ≡ kind.Imports
imports_kind kind.Imports h = refl
imports_kind _ h = cc

module _ (ts ts' : List TokenKind) (big : ℕ) (agree : (n : ℕ) → n < big → slice_get ts' n ≡ slice_get ts n) where
  words_kept : (ws : List TokenKind) (i j : ℕ) → Words ts i ws j → j ≤ big → Words ts' i ws j
  words_kept [] i j h le = h
  words_kept (w ∷ ws) i j h le = (agree i (omega (arith, words_order ts ws (suc i) j h.1)) ∙ h.0, words_kept ws (suc i) j h.1 le)

  -- what stands in front of a semicolon stays
  kept : (c : Category) (p : Tree) → Derives ts c p → IsAt ts (last p) token.Semicolon → last p < big → Derives ts' c p
  kept c p h at lt =
      let there : Derives ts' c (carry (λ n. n) p) = derives_kept ts ts' (λ n. n) p c (λ n lo hi. record { same = agree n (omega (arith, hi, lt)); next = refl }) (soft_same ts ts' (λ n. n) (last p) (agree (last p) lt)) h in
      subst (Derives ts' c) (carry_still (λ n. n) (last p) (λ n le. refl) p (derives_ordered ts p c h) (omega arith)) there

  semicolon : (c : Category) (ps : Trees) (a b : ℕ) → Goes ts (lines_of c) a ps b → IsAt ts a token.Semicolon × (suc a ≤ b)
  semicolon c none a b (inl h) = absurd h
  semicolon c none a b (inr h) = (h.1.0, omega (arith, h.1.1, h.2))
  semicolon c (more p ps) a b h = (h.1.0, omega (arith, h.1.1, h.2, goes_order ts (more p ps) (lines_of c) a b h, after c p ps h.3 b h.4))
    where
      after : (e : Category) (q : Tree) (qs : Trees) → Derives ts e q → (n : ℕ) → Goes ts (lines_of c) (last q) qs n → first q ≤ n
      after e q qs d n g = omega (arith, derives_order ts q e d, goes_order ts qs (lines_of c) (last q) n g)
  semicolon c (skip ps) a b h = absurd h

  lines_kept : (c : Category) (ps : Trees) (a b : ℕ) → Goes ts (lines_of c) a ps b → b ≤ big → Goes ts' (lines_of c) a ps b
  lines_kept c none a b (inl h) le = absurd h
  lines_kept c none a b (inr h) le = inr (h.0, words_kept (token.Semicolon ∷ []) a h.0 h.1 (omega (arith, h.2, le)), h.2)
  lines_kept c (more p ps) a b h le =
      let s = semicolon c ps (last p) b h.4 in
      let in_p : first p ≤ last p = derives_order ts p c h.3 in
      (h.0, words_kept (token.Semicolon ∷ []) a h.0 h.1 (omega (arith, h.2, in_p, s.1, le)), h.2, kept c p h.3 s.0 (omega (arith, s.1, le)), lines_kept c ps (last p) b h.4 le)
  lines_kept c (skip ps) a b h le = absurd h

  imports_kept : (p : Tree) → Derives ts category.Imports p → last p ≤ big → Derives ts' category.Imports p
  imports_kept (node k a b qs) h le = go k (imports_kind k h.0) h
    where
      rest_kept : (ps : Trees) (i : ℕ) → Spells ts (Many (token.Semicolon ∷ []) (lines_of category.Import)) i ps b → Spells ts' (Many (token.Semicolon ∷ []) (lines_of category.Import)) i ps b
      rest_kept none i g = (g.0, words_kept (token.Semicolon ∷ []) i g.0 g.1 (omega (arith, g.2, le)), g.2)
      rest_kept (more q ps) i g =
          let s = semicolon category.Import ps (last q) b g.4 in
          let in_q : first q ≤ last q = derives_order ts q category.Import g.3 in
          (g.0, words_kept (token.Semicolon ∷ []) i g.0 g.1 (omega (arith, g.2, in_q, s.1, le)), g.2, kept category.Import q g.3 s.0 (omega (arith, s.1, le)), lines_kept category.Import ps (last q) b g.4 le)
      rest_kept (skip ps) i g = absurd g

      rest_begins : (ps : Trees) (i : ℕ) → Spells ts (Many (token.Semicolon ∷ []) (lines_of category.Import)) i ps b → IsAt ts i token.Semicolon × (suc i ≤ b)
      rest_begins none i g = (g.1.0, omega (arith, g.1.1, g.2))
      rest_begins (more q ps) i g = (g.1.0, omega (arith, g.1.1, g.2, derives_order ts q category.Import g.3, goes_order ts ps (lines_of category.Import) (last q) b g.4))
      rest_begins (skip ps) i g = absurd g

      spells_kept : (ps : Trees) → Spells ts (rule (place_of category.Imports) kind.Imports) a ps b → Spells ts' (rule (place_of category.Imports) kind.Imports) a ps b
      spells_kept none g = absurd g
      spells_kept (more q ps) g = let s = rest_begins ps (last q) g.2 in (g.0, kept category.Import q g.1 s.0 (omega (arith, s.1, le)), rest_kept ps (last q) g.2)
      spells_kept (skip ps) g = absurd g

      go : (l : Kind) → l ≡ kind.Imports → Derives ts category.Imports (node l a b qs) → Derives ts' category.Imports (node l a b qs)
      go l e g = subst (λ x. Derives ts' category.Imports (node x a b qs)) (sym e) (refl, spells_kept qs (subst (λ x. Spells ts (rule (place_of category.Imports) x) a qs b) e g.1), refl, refl)

  module _ (d : Tree) (is : Derives ts' category.Declaration d) (begins : first d ≡ big) (closed : IsAt ts' (last d) token.Semicolon) where
    behind_all : Goes ts' (lines_of category.Declaration) (last d) none (suc (last d))
    behind_all = inr (suc (last d), (closed, refl), refl)

    lines_on : (ps : Trees) (a : ℕ) → Goes ts (lines_of category.Declaration) a ps big → Goes ts' (lines_of category.Declaration) a (onto ps (more d none)) (suc (last d))
    lines_on none a (inl h) = absurd h
    lines_on none a (inr h) = (h.0, words_kept (token.Semicolon ∷ []) a h.0 h.1 (omega (arith, h.2)), h.2 ∙ sym begins, is, behind_all)
    lines_on (more p ps) a h =
        let s = semicolon category.Declaration ps (last p) big h.4 in
        let in_p : first p ≤ last p = derives_order ts p category.Declaration h.3 in
        (h.0, words_kept (token.Semicolon ∷ []) a h.0 h.1 (omega (arith, h.2, in_p, s.1)), h.2, kept category.Declaration p h.3 s.0 (omega (arith, s.1)), lines_on ps (last p) h.4)
    lines_on (skip ps) a h = absurd h

    declarations_on : (ps : Trees) (a : ℕ) → Spells ts (Many [] (lines_of category.Declaration)) a ps big → Spells ts' (Many [] (lines_of category.Declaration)) a (onto ps (more d none)) (suc (last d))
    declarations_on none a h = (h.0, h.1, h.2 ∙ sym begins, is, behind_all)
    declarations_on (more p ps) a h =
        let s = semicolon category.Declaration ps (last p) big h.4 in
        (h.0, h.1, h.2, kept category.Declaration p h.3 s.0 (omega (arith, s.1)), lines_on ps (last p) h.4)
    declarations_on (skip ps) a h = absurd h

    declarations_far : (ps : Trees) (a : ℕ) → Spells ts (Many [] (lines_of category.Declaration)) a ps big → a ≤ big
    declarations_far ps a h = spells_order ts ps (Many [] (lines_of category.Declaration)) a big h

    file_on : (ps : Trees) (a : ℕ) → Spells ts (rule (place_of category.File) kind.File) a ps big → Spells ts' (rule (place_of category.File) kind.File) a (onto ps (more d none)) (suc (last d))
    file_on none a h = absurd h
    file_on (more p ps) a h =
        let far : last p ≤ big = declarations_far ps (last p) h.2 in
        let in_p : first p ≤ last p = derives_order ts p category.Imports h.1 in
        (words_kept (token.Package ∷ token.Identifier ∷ token.Semicolon ∷ []) a (first p) h.0 (omega (arith, far, in_p)), imports_kept p h.1 far, declarations_on ps (last p) h.2)
    file_on (skip ps) a h = (h.0, words_kept (token.Package ∷ token.Identifier ∷ token.Semicolon ∷ []) a h.0 h.1 (declarations_far ps h.0 h.2), declarations_on ps h.0 h.2)

pub appended : (ts ts' : List TokenKind) (t d : Tree) → IsFileTree ts t → ((n : ℕ) → n < length ts → slice_get ts' n ≡ slice_get ts n) → Derives ts' category.Declaration d → first d ≡ length ts → IsAt ts' (last d) token.Semicolon → suc (last d) ≡ length ts'
    → IsFileTree ts' (with_declaration t d (length ts'))
appended ts ts' (node k a b ps) d h agree is begins closed all = go k (file_kind k h.derives.0) h
  where
    go : (l : Kind) → l ≡ kind.File → IsFileTree ts (node l a b ps) → IsFileTree ts' (node l a (length ts') (onto ps (more d none)))
    go l e g =
        let g' : IsFileTree ts (node kind.File a (length ts) ps) = subst (λ x. IsFileTree ts (node x a (length ts) ps)) e (subst (λ n. IsFileTree ts (node l a n ps)) g.ends g) in
        subst (λ x. IsFileTree ts' (node x a (length ts') (onto ps (more d none)))) (sym e) (record {
          derives = (refl, subst (λ n. Spells ts' (rule (place_of category.File) kind.File) a (onto ps (more d none)) n) all (file_on ts ts' (length ts) agree d is begins closed ps a g'.derives.1), refl, refl);
          begins = g'.begins;
          ends = refl;
        })

-- the top of a file is a level
pub file_level : (ts : List TokenKind) (t : Tree) → IsFileTree ts t → weight (kind_of t) ≡ 1
file_level ts (node k a b ps) h = ap weight (file_kind k h.derives.0)
