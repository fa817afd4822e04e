-- A derivation depends on the tokens of its range, and not on what stands behind it if that is nothing.
use Rattle.std.proofs.Common.{◌≡◌, ℕ, suc, ◌<◌, ◌≤◌, ◌⊎◌, inl, inr, ⊎_elim, Bool, true, false, List, [], ◌∷◌, Option, Some, None, refl, sym, ap, ◌∙◌, subst, arith}
use Rattle.std.specs.Prelude.{slice_get, if◌then◌else◌}
use Rattle.go_tokens.specs.declared.token.TokenKind.{TokenKind}
use Rattle.go_tokens.specs.declared.token.TokenKind.TheVariants as token
use Rattle.go_grammar.specs.declared.kind.Kind.{Kind}
use Rattle.go_grammar.specs.declared.kind.Category.{Category}
use Rattle.go_grammar.specs.Categories.{within, place_of, is_type_place, is_type_literal}
use Rattle.go_grammar.specs.Rules.{Items, Lines, Open, Each, Again, Rule, End, Then, Maybe, Unless, Many, item}
use Rattle.go_grammar.specs.Trees.{Tree, node, Trees, none, more, skip, first, last}
use Rattle.go_grammar.specs.Grammar.{rule, ends, IsAt, Words, Only, Gap, Close, Between, Early, Derives, Spells, Goes}
use Rattle.go_grammar.specs.Words.{is_among}
use Rattle.go_grammar.proofs.Ranges.{words_order, gap_order, close_order, between_order, early_order, derives_order, spells_order, goes_order}

split : (i k : ℕ) → i ≤ k → (i ≡ k) ⊎ (i < k)
split i k le = grind arith

among_none : (us : List TokenKind) → is_among None us ≡ false
among_none [] = refl
among_none (u ∷ us) = among_none us

ends_none : (c : Category) (k : Kind) → ends c k None ≡ true
ends_none c k = go (is_type_place c) (is_type_literal k)
  where
    go : (a b : Bool) → (if a then true else (if b then true else true)) ≡ true
    go true b = refl
    go false true = refl
    go false false = refl

-- ts' has the tokens of ts below m, and none at m
module _ (ts ts' : List TokenKind) (m : ℕ) (agree : (k : ℕ) → k < m → slice_get ts' k ≡ slice_get ts k) (stop : slice_get ts' m ≡ None) (no_brace : IsAt ts m token.RightBrace → ⊥) where
  at_cut : (i : ℕ) (w : TokenKind) → i < m → IsAt ts i w → IsAt ts' i w
  at_cut i w lt h = agree i lt ∙ h

  words_cut : (ws : List TokenKind) (i j : ℕ) → Words ts i ws j → j ≤ m → Words ts' i ws j
  words_cut [] i j h le = h
  words_cut (w ∷ ws) i j h le = (at_cut i w (omega (arith, words_order ts ws (suc i) j h.1)) h.0, words_cut ws (suc i) j h.1 le)

  only_cut : (s : TokenKind) (i j : ℕ) → Only ts s i j → j ≤ m → Only ts' s i j
  only_cut s i j h le = record { order = h.order; each = λ k lo hi. at_cut k s (omega arith) (h.each k lo hi) }

  gap_cut : (l : Items) (i k : ℕ) → Gap ts l i k → k ≤ m → Gap ts' l i k
  gap_cut (Lines true c s e) i k h le = only_cut s i k h le
  gap_cut (Lines false c s e) i k h le = h
  gap_cut (Open c s) i k h le = only_cut s i k h le
  gap_cut (Each c us vs) i k h le = h
  gap_cut (Again c s) i k h le = (at_cut i s (omega (arith, h.1)) h.0, h.1)

  close_cut : (l : Items) (i j : ℕ) → Close ts l i j → j ≤ m → Close ts' l i j
  close_cut (Lines b c s e) i j h le = (h.0, gap_cut (Lines b c s e) i h.0 h.1 (omega (arith, h.3)), at_cut h.0 e (omega (arith, h.3)) h.2, h.3)
  close_cut (Open c s) i j h le = only_cut s i j h le
  close_cut (Each c us vs) i j h le = words_cut vs i j h le
  close_cut (Again c s) i j h le = h

  between_cut : (l : Items) (i k : ℕ) → Between ts l i k → k ≤ m → Between ts' l i k
  between_cut (Lines b c s e) i k h le = (at_cut i s (omega (arith, h.1)) h.0, h.1)
  between_cut (Open c s) i k h le = (at_cut i s (omega (arith, h.1)) h.0, h.1)
  between_cut (Each c us vs) i k h le = words_cut us i k h le
  between_cut (Again c s) i k h le = h

  -- where the closing word is no part of the text, it stands below m or is no longer there
  early_cut : (l : Items) (i j : ℕ) → Early ts l i j → j ≤ m → Early ts' l i j
  early_cut (Lines b c s e) i j h le = (at_cut i e (omega (arith, h.1)) h.0, h.1)
  early_cut (Open c s) i j h le = elim (split i m (omega (arith, h.1))) [
    | inl same ↦ absurd (no_brace (subst (λ k. IsAt ts k token.RightBrace) same h.0))
    | inr lt ↦ (at_cut i token.RightBrace lt h.0, h.1)
  ]
  early_cut (Each c us vs) i j h le = absurd h
  early_cut (Again c s) i j h le = absurd h

  ends_cut : (c : Category) (k : Kind) (j : ℕ) → j ≤ m → ends c k (slice_get ts j) ≡ true → ends c k (slice_get ts' j) ≡ true
  ends_cut c k j le h = elim (split j m le) [
    | inl same ↦ subst (λ w. ends c k w ≡ true) (sym (ap (slice_get ts') same ∙ stop)) (ends_none c k)
    | inr lt ↦ subst (λ w. ends c k w ≡ true) (sym (agree j lt)) h
  ]

  among_cut : (us : List TokenKind) (j : ℕ) → j ≤ m → is_among (slice_get ts j) us ≡ false → is_among (slice_get ts' j) us ≡ false
  among_cut us j le h = elim (split j m le) [
    | inl same ↦ subst (λ w. is_among w us ≡ false) (sym (ap (slice_get ts') same ∙ stop)) (among_none us)
    | inr lt ↦ subst (λ w. is_among w us ≡ false) (sym (agree j lt)) h
  ]

  mutual
    pub derives_cut : (t : Tree) (c : Category) → Derives ts c t → last t ≤ m → Derives ts' c t
    derives_cut (node k i j ps) c h le = (h.0, spells_cut ps (rule (place_of c) k) i j h.1 le, h.2, ends_cut c k j le h.3)

    spells_cut : (ps : Trees) (r : Rule) (i j : ℕ) → Spells ts r i ps j → j ≤ m → Spells ts' r i ps j
    spells_cut none (End ws) i j h le = words_cut ws i j h le
    spells_cut (more p ps) (End ws) i j h le = absurd h
    spells_cut (skip ps) (End ws) i j h le = absurd h
    spells_cut none (Then ws c r) i j h le = absurd h
    spells_cut (more p ps) (Then ws c r) i j h le =
        let on : last p ≤ j = spells_order ts ps r (last p) j h.2 in
        let in_p : first p ≤ last p = derives_order ts p c h.1 in
        (words_cut ws i (first p) h.0 (omega arith), derives_cut p c h.1 (omega arith), spells_cut ps r (last p) j h.2 le)
    spells_cut (skip ps) (Then ws c r) i j h le = absurd h
    spells_cut none (Maybe ws c r) i j h le = absurd h
    spells_cut (more p ps) (Maybe ws c r) i j h le =
        let on : last p ≤ j = spells_order ts ps r (last p) j h.2 in
        let in_p : first p ≤ last p = derives_order ts p c h.1 in
        (words_cut ws i (first p) h.0 (omega arith), derives_cut p c h.1 (omega arith), spells_cut ps r (last p) j h.2 le)
    spells_cut (skip ps) (Maybe ws c r) i j h le = (h.0, words_cut ws i h.0 h.1 (omega (arith, spells_order ts ps r h.0 j h.2)), spells_cut ps r h.0 j h.2 le)
    spells_cut none (Unless ws c us r) i j h le = absurd h
    spells_cut (more p ps) (Unless ws c us r) i j h le =
        let on : last p ≤ j = spells_order ts ps r (last p) j h.2 in
        let in_p : first p ≤ last p = derives_order ts p c h.1 in
        (words_cut ws i (first p) h.0 (omega arith), derives_cut p c h.1 (omega arith), spells_cut ps r (last p) j h.2 le)
    spells_cut (skip ps) (Unless ws c us r) i j h le =
        let on : h.0 ≤ j = spells_order ts ps r h.0 j h.3 in
        (h.0, words_cut ws i h.0 h.1 (omega arith), among_cut us h.0 (omega arith) h.2, spells_cut ps r h.0 j h.3 le)
    spells_cut none (Many ws l) i j h le = (h.0, words_cut ws i h.0 h.1 (omega (arith, close_order ts l h.0 j h.2)), close_cut l h.0 j h.2 le)
    spells_cut (more p ps) (Many ws l) i j h le =
        let on : last p ≤ j = goes_order ts ps l (last p) j h.4 in
        let in_p : first p ≤ last p = derives_order ts p (item l) h.3 in
        let in_g : h.0 ≤ first p = gap_order ts l h.0 (first p) h.2 in
        (h.0, words_cut ws i h.0 h.1 (omega arith), gap_cut l h.0 (first p) h.2 (omega arith), derives_cut p (item l) h.3 (omega arith), goes_cut ps l (last p) j h.4 le)
    spells_cut (skip ps) (Many ws l) i j h le = absurd h

    goes_cut : (ps : Trees) (l : Items) (i j : ℕ) → Goes ts l i ps j → j ≤ m → Goes ts' l i ps j
    goes_cut none l i j (inl h) le = inl (early_cut l i j h le)
    goes_cut none l i j (inr h) le = inr (h.0, between_cut l i h.0 h.1 (omega (arith, close_order ts l h.0 j h.2)), close_cut l h.0 j h.2 le)
    goes_cut (more p ps) l i j h le =
        let on : last p ≤ j = goes_order ts ps l (last p) j h.4 in
        let in_p : first p ≤ last p = derives_order ts p (item l) h.3 in
        let in_g : h.0 ≤ first p = gap_order ts l h.0 (first p) h.2 in
        (h.0, between_cut l i h.0 h.1 (omega arith), gap_cut l h.0 (first p) h.2 (omega arith), derives_cut p (item l) h.3 (omega arith), goes_cut ps l (last p) j h.4 le)
    goes_cut (skip ps) l i j h le = absurd h
