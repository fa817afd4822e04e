-- A derivation whose tokens all stay is one of the new tokens, at its moved place.
use Rattle.std.proofs.Common.{◌≡◌, ℕ, zero, suc, ◌+◌, ◌-◌, ◌<◌, ◌≤◌, ◌⊎◌, inl, inr, Bool, true, false, List, [], ◌∷◌, Option, refl, sym, ap, ◌∙◌, subst, arith}
use Rattle.std.specs.Prelude.{slice_get, ◌&&◌, ◌||◌, nat_le, if◌then◌else◌}
use Rattle.go_tokens.specs.declared.token.TokenKind.{TokenKind}
use Rattle.go_tokens.specs.declared.token.TokenKind.TheVariants as token
use Rattle.go_grammar.specs.declared.kind.Kind.{Kind}
use Rattle.go_grammar.specs.declared.kind.Kind.TheVariants as kind
use Rattle.go_grammar.specs.declared.kind.Category.{Category}
use Rattle.go_grammar.specs.declared.kind.Category.TheVariants as category
use Rattle.go_grammar.specs.Categories.{place_of, is_type_place, is_type_literal}
use Rattle.go_grammar.specs.Rules.{Items, Lines, Open, Each, Again, Rule, End, Then, Maybe, Unless, Many, item}
use Rattle.go_grammar.specs.Trees.{Tree, node, Trees, none, more, skip, first, last}
use Rattle.go_grammar.specs.Grammar.{rule, agrees, ends, result_words, IsAt, Words, Only, Gap, Close, Between, Early, Derives, Spells, Goes, is_name, is_parameter, are_names, count, are_types, are_entries, ends_from, first_parts}
use Rattle.go_grammar.specs.Words.{is_word, is_among}
use Rattle.go_grammar.proofs.Public.{same_category, words_order, gap_order, close_order, between_order, derives_order, spells_order, goes_order}
use Rattle.go_rewriting.specs.Replacing.{Edge}
use Rattle.go_rewriting.specs.Places.{Stays, carry, carries}
use Rattle.go_rewriting.proofs.Results.{led, rule_led, led_words, Closed, closed_behind, not_yet, ends_closed}

pub false_kept : (a b : Bool) → (b ≡ true → a ≡ true) → a ≡ false → b ≡ false
false_kept a true h e = let y : a ≡ true = h refl in cc
false_kept a false h e = refl

pub ends_edge : (c : Category) (k : Kind) (w w' : Option TokenKind) → (is_word w' token.LeftBrace ≡ true → is_word w token.LeftBrace ≡ true) → ends c k w ≡ true → ends c k w' ≡ true
ends_edge c k w w' h e = go (is_type_place c) (is_type_literal k) (is_word w token.LeftBrace) (is_word w' token.LeftBrace) h e
  where
    go : (a b x y : Bool) → (y ≡ true → x ≡ true) → (if a then true else (if b then (if x then false else true) else true)) ≡ true → (if a then true else (if b then (if y then false else true) else true)) ≡ true
    go true b x y g z = refl
    go false false x y g z = refl
    go false true x false g z = refl
    go false true true true g z = z
    go false true false true g z = let n : false ≡ true = g refl in cc

-- what parts must be is the same of parts that stay
module _ (m : ℕ → ℕ) where
  pub first_carry : (t : Tree) → first (carry m t) ≡ m (first t)
  first_carry (node k a b ps) = refl

  pub last_carry : (t : Tree) → last (carry m t) ≡ m (last t)
  last_carry (node k a b ps) = refl

  first_parts_same : (ps : Trees) → first_parts (carries m ps) ≡ carries m (first_parts ps)
  first_parts_same none = refl
  first_parts_same (more (node k a b qs) ps) = refl
  first_parts_same (skip ps) = refl

  names_same : (ps : Trees) → are_names (carries m ps) ≡ are_names ps
  names_same none = refl
  names_same (more (node k a b qs) ps) = ap (λ x. is_name k && x) (names_same ps)
  names_same (skip ps) = refl

  count_same : (ps : Trees) → count (carries m ps) ≡ count ps
  count_same none = refl
  count_same (more p ps) = ap suc (count_same ps)
  count_same (skip ps) = ap suc (count_same ps)

  types_same : (ps : Trees) → are_types (carries m ps) ≡ are_types ps
  types_same none = refl
  types_same (more (node k a b qs) ps) = ap (λ x. (if is_parameter k then false else true) && x) (types_same ps)
  types_same (skip ps) = refl

  entries_same : (ps : Trees) → are_entries (carries m ps) ≡ are_entries ps
  entries_same none = refl
  entries_same (more (node k a b qs) ps) = ap (λ x. (is_name k || is_parameter k) && x) (entries_same ps)
  entries_same (skip ps) = refl

  ends_same : (b : Bool) (ps : Trees) → ends_from b (carries m ps) ≡ ends_from b ps
  ends_same b none = refl
  ends_same b (more (node k a c qs) ps) = ends_same (is_parameter k) ps
  ends_same b (skip ps) = ends_same false ps

  two_same : (ps : Trees) → nat_le (count (first_parts (first_parts (carries m ps)))) 2 ≡ nat_le (count (first_parts (first_parts ps))) 2
  two_same ps = ap (λ q. nat_le (count (first_parts q)) 2) (first_parts_same ps) ∙ ap (λ q. nat_le (count q) 2) (first_parts_same (first_parts ps)) ∙ ap (λ n. nat_le n 2) (count_same (first_parts (first_parts ps)))

  pub agrees_carried : (k : Kind) (ps : Trees) → agrees k (carries m ps) ≡ agrees k ps
  agrees_carried kind.NewNames ps = ap are_names (first_parts_same ps) ∙ names_same (first_parts ps)
  agrees_carried kind.AssigningRange ps = two_same ps
  agrees_carried kind.DefiningRange ps = two_same ps
  agrees_carried kind.Parameters ps = ap (λ x. x || (ends_from false (carries m ps) && are_entries (carries m ps))) (types_same ps) ∙ ap (λ x. are_types ps || (x && are_entries (carries m ps))) (ends_same false ps) ∙ ap (λ x. are_types ps || (ends_from false ps && x)) (entries_same ps)
  agrees_carried _ ps = refl

module _ (ts ts' : List TokenKind) (m : ℕ → ℕ) where
  -- the tokens from i up to j stay
  abbrev pub Stay : ℕ → ℕ → Type 0
  Stay i j = (n : ℕ) → i ≤ n → n < j → Stays ts ts' m n

  -- what stands in the place behind a text doesn't spoil the text
  pub record Soft (n : ℕ) : Type 0 where
    pub edge : Edge ts ts' n (m n)
    pub closing : IsAt ts n token.RightBrace → IsAt ts' (m n) token.RightBrace

  pub narrow : (i j k l : ℕ) → Stay i j → i ≤ k → l ≤ j → Stay k l
  narrow i j k l st lo hi = λ n a b. st n (omega (arith, a, lo)) (omega (arith, b, hi))

  pub soft_same : (n : ℕ) → slice_get ts' (m n) ≡ slice_get ts n → Soft n
  soft_same n e = record {
    edge = record {
      brace = subst (λ w. is_word w token.LeftBrace ≡ true → is_word (slice_get ts n) token.LeftBrace ≡ true) (sym e) (λ h. h);
      result = λ k next closed. subst (λ w. is_among w result_words ≡ true → is_among (slice_get ts n) result_words ≡ true) (sym e) (λ h. h);
    };
    closing = λ h. e ∙ h;
  }

  apart : (i k : ℕ) → i ≤ k → (i ≡ k) ⊎ (i < k)
  apart i k le = grind arith

  pub soft_at : (i j n : ℕ) → Stay i j → i ≤ n → n ≤ j → Soft j → Soft n
  soft_at i j n st lo hi s = elim (apart n j hi) [
    | inl same ↦ subst Soft (sym same) s
    | inr lt ↦ soft_same n (st n lo lt).same
  ]

  pub ends_soft : (c : Category) (k : Kind) (n : ℕ) → Soft n → ends c k (slice_get ts n) ≡ true → ends c k (slice_get ts' (m n)) ≡ true
  ends_soft c k n s h = ends_edge c k (slice_get ts n) (slice_get ts' (m n)) s.edge.brace h

  pub among_soft : (us : List TokenKind) (n : ℕ) → us ≡ result_words → Closed ts n → Soft n → is_among (slice_get ts n) us ≡ false → is_among (slice_get ts' (m n)) us ≡ false
  among_soft us n is c s h =
      let h' : is_among (slice_get ts n) result_words ≡ false = subst (λ vs. is_among (slice_get ts n) vs ≡ false) is h in
      subst (λ vs. is_among (slice_get ts' (m n)) vs ≡ false) (sym is) (false_kept (is_among (slice_get ts n) result_words) (is_among (slice_get ts' (m n)) result_words) (s.edge.result c.place c.next c.is) h')

  -- places that stay keep their distances
  steps : (d i k : ℕ) → i + d ≡ k → Stay i k → m k ≡ m i + d
  steps zero i k e st = let same : k ≡ i = omega (arith, e) in omega (arith, ap m same)
  steps (suc d) i k e st =
      let s : m (suc i) ≡ suc (m i) = (st i (omega arith) (omega (arith, e))).next in
      let r : m k ≡ m (suc i) + d = steps d (suc i) k (omega (arith, e)) (λ n lo hi. st n (omega (arith, lo)) hi) in
      omega (arith, s, r)

  at_kept : (i j : ℕ) (w : TokenKind) → Stay i j → i < j → IsAt ts i w → IsAt ts' (m i) w
  at_kept i j w st lt h = (st i (omega arith) lt).same ∙ h

  next_kept : (i j : ℕ) → Stay i j → i < j → m (suc i) ≡ suc (m i)
  next_kept i j st lt = (st i (omega arith) lt).next

  pub words_kept : (ws : List TokenKind) (i j : ℕ) → Stay i j → Words ts i ws j → Words ts' (m i) ws (m j)
  words_kept [] i j st h = ap m h
  words_kept (w ∷ ws) i j st h =
      let lt : i < j = omega (arith, words_order ts ws (suc i) j h.1) in
      (at_kept i j w st lt h.0, subst (λ n. Words ts' n ws (m j)) (next_kept i j st lt) (words_kept ws (suc i) j (narrow i j (suc i) j st (omega arith) (omega arith)) h.1))

  only_kept : (s : TokenKind) (i j : ℕ) → Stay i j → Only ts s i j → Only ts' s (m i) (m j)
  only_kept s i j st h =
      let far : m j ≡ m i + (j - i) = steps (j - i) i j (omega (arith, h.order)) st in
      record {
        order = omega (arith, far);
        each = λ v lo hi.
            let u : ℕ = i + (v - m i) in
            let low : u < j = omega (arith, far, lo, hi, h.order) in
            let at_u : m u ≡ m i + (v - m i) = steps (v - m i) i u (omega arith) (narrow i j i u st (omega arith) (omega (arith, low))) in
            let back : m u ≡ v = omega (arith, at_u, lo) in
            subst (λ n. IsAt ts' n s) back ((st u (omega arith) low).same ∙ h.each u (omega arith) low);
      }

  pub gap_kept : (l : Items) (i j : ℕ) → Stay i j → Gap ts l i j → Gap ts' l (m i) (m j)
  gap_kept (Lines true c s e) i j st h = only_kept s i j st h
  gap_kept (Lines false c s e) i j st h = ap m h
  gap_kept (Open c s) i j st h = only_kept s i j st h
  gap_kept (Each c us vs) i j st h = ap m h
  gap_kept (Again c s) i j st h = let lt : i < j = omega (arith, h.1) in (at_kept i j s st lt h.0, sym (next_kept i j st lt) ∙ ap m h.1)

  pub close_kept : (l : Items) (i j : ℕ) → Stay i j → Close ts l i j → Close ts' l (m i) (m j)
  close_kept (Lines b c s e) i j st h =
      let on : i ≤ h.0 = gap_order ts (Lines b c s e) i h.0 h.1 in
      let st' : Stay h.0 j = narrow i j h.0 j st on (omega arith) in
      let lt : h.0 < j = omega (arith, h.3) in
      (m h.0, gap_kept (Lines b c s e) i h.0 (narrow i j i h.0 st (omega arith) (omega (arith, lt))) h.1, at_kept h.0 j e st' lt h.2, sym (next_kept h.0 j st' lt) ∙ ap m h.3)
  close_kept (Open c s) i j st h = only_kept s i j st h
  close_kept (Each c us vs) i j st h = words_kept vs i j st h
  close_kept (Again c s) i j st h = ap m h

  pub between_kept : (l : Items) (i j : ℕ) → Stay i j → Between ts l i j → Between ts' l (m i) (m j)
  between_kept (Lines b c s e) i j st h = let lt : i < j = omega (arith, h.1) in (at_kept i j s st lt h.0, sym (next_kept i j st lt) ∙ ap m h.1)
  between_kept (Open c s) i j st h = let lt : i < j = omega (arith, h.1) in (at_kept i j s st lt h.0, sym (next_kept i j st lt) ∙ ap m h.1)
  between_kept (Each c us vs) i j st h = words_kept us i j st h
  between_kept (Again c s) i j st h = ap m h

  pub early_kept : (l : Items) (i j : ℕ) → Stay i j → Soft j → Early ts l i j → Early ts' l (m i) (m j)
  early_kept (Lines b c s e) i j st soft h = let lt : i < j = omega (arith, h.1) in (at_kept i j e st lt h.0, sym (next_kept i j st lt) ∙ ap m h.1)
  early_kept (Open c s) i j st soft h = ((soft_at i j i st (omega arith) (omega (arith, h.1)) soft).closing h.0, ap m h.1)
  early_kept (Each c us vs) i j st soft h = absurd h
  early_kept (Again c s) i j st soft h = absurd h

  mutual
    -- a tree that lies within what stays
    pub part_kept : (t : Tree) (c : Category) (i j : ℕ) → Stay i j → Soft j → i ≤ first t → last t ≤ j → Derives ts c t → Derives ts' c (carry m t)
    part_kept (node k a b ps) c i j st soft lo hi h =
        let on : a ≤ b = spells_order ts ps (rule (place_of c) k) a b h.1 in
        let soft_b : Soft b = soft_at i j b st (omega (arith, lo, on)) hi soft in
        (h.0, spells_kept ps (rule (place_of c) k) a b false (rule_led (place_of c) k) (not_yet ts a) (narrow i j a b st lo hi) soft_b h.1, agrees_carried m k ps ∙ h.2, ends_soft c k b soft_b h.3)

    pub spells_kept : (ps : Trees) (r : Rule) (i j : ℕ) (b : Bool) → led b r ≡ true → (b ≡ true → Closed ts i) → Stay i j → Soft j → Spells ts r i ps j → Spells ts' r (m i) (carries m ps) (m j)
    spells_kept none (End ws) i j v q f st soft h = words_kept ws i j st h
    spells_kept (more p ps) (End ws) i j v q f st soft h = absurd h
    spells_kept (skip ps) (End ws) i j v q f st soft h = absurd h
    spells_kept none (Then ws c r) i j v q f st soft h = absurd h
    spells_kept (more p ps) (Then ws c r) i j v q f st soft h =
        let on : i ≤ first p = words_order ts ws i (first p) h.0 in
        let in_p : first p ≤ last p = derives_order ts p c h.1 in
        let off : last p ≤ j = spells_order ts ps r (last p) j h.2 in
        (subst (λ n. Words ts' (m i) ws n) (sym (first_carry m p)) (words_kept ws i (first p) (narrow i j i (first p) st (omega arith) (omega arith)) h.0), part_kept p c i j st soft on off h.1, subst (λ n. Spells ts' r n (carries m ps) (m j)) (sym (last_carry m p)) (spells_kept ps r (last p) j (same_category c category.Parameters) q (ends_closed ts c p h.1) (narrow i j (last p) j st (omega arith) (omega arith)) soft h.2))
    spells_kept (skip ps) (Then ws c r) i j v q f st soft h = absurd h
    spells_kept none (Maybe ws c r) i j v q f st soft h = absurd h
    spells_kept (more p ps) (Maybe ws c r) i j v q f st soft h =
        let on : i ≤ first p = words_order ts ws i (first p) h.0 in
        let in_p : first p ≤ last p = derives_order ts p c h.1 in
        let off : last p ≤ j = spells_order ts ps r (last p) j h.2 in
        (subst (λ n. Words ts' (m i) ws n) (sym (first_carry m p)) (words_kept ws i (first p) (narrow i j i (first p) st (omega arith) (omega arith)) h.0), part_kept p c i j st soft on off h.1, subst (λ n. Spells ts' r n (carries m ps) (m j)) (sym (last_carry m p)) (spells_kept ps r (last p) j false q (not_yet ts (last p)) (narrow i j (last p) j st (omega arith) (omega arith)) soft h.2))
    spells_kept (skip ps) (Maybe ws c r) i j v q f st soft h =
        let on : i ≤ h.0 = words_order ts ws i h.0 h.1 in
        let off : h.0 ≤ j = spells_order ts ps r h.0 j h.2 in
        (m h.0, words_kept ws i h.0 (narrow i j i h.0 st (omega arith) off) h.1, spells_kept ps r h.0 j false q (not_yet ts h.0) (narrow i j h.0 j st on (omega arith)) soft h.2)
    spells_kept none (Unless ws c us r) i j v q f st soft h = absurd h
    spells_kept (more p ps) (Unless ws c us r) i j v q f st soft h =
        let u = led_words ts ws c us r v i q f in
        let on : i ≤ first p = words_order ts ws i (first p) h.0 in
        let in_p : first p ≤ last p = derives_order ts p c h.1 in
        let off : last p ≤ j = spells_order ts ps r (last p) j h.2 in
        (subst (λ n. Words ts' (m i) ws n) (sym (first_carry m p)) (words_kept ws i (first p) (narrow i j i (first p) st (omega arith) (omega arith)) h.0), part_kept p c i j st soft on off h.1, subst (λ n. Spells ts' r n (carries m ps) (m j)) (sym (last_carry m p)) (spells_kept ps r (last p) j false u.rest (not_yet ts (last p)) (narrow i j (last p) j st (omega arith) (omega arith)) soft h.2))
    spells_kept (skip ps) (Unless ws c us r) i j v q f st soft h =
        let on : i ≤ h.0 = words_order ts ws i h.0 h.1 in
        let off : h.0 ≤ j = spells_order ts ps r h.0 j h.3 in
        let u = led_words ts ws c us r v i q f in
        (m h.0, words_kept ws i h.0 (narrow i j i h.0 st (omega arith) off) h.1, among_soft us h.0 u.words (closed_behind ts ws i h.0 u.none h.1 u.closed) (soft_at i j h.0 st on off soft) h.2, spells_kept ps r h.0 j false u.rest (not_yet ts h.0) (narrow i j h.0 j st on (omega arith)) soft h.3)
    spells_kept none (Many ws l) i j v q f st soft h =
        let on : i ≤ h.0 = words_order ts ws i h.0 h.1 in
        let off : h.0 ≤ j = close_order ts l h.0 j h.2 in
        (m h.0, words_kept ws i h.0 (narrow i j i h.0 st (omega arith) off) h.1, close_kept l h.0 j (narrow i j h.0 j st on (omega arith)) h.2)
    spells_kept (more p ps) (Many ws l) i j v q f st soft h =
        let on : i ≤ h.0 = words_order ts ws i h.0 h.1 in
        let in_g : h.0 ≤ first p = gap_order ts l h.0 (first p) h.2 in
        let in_p : first p ≤ last p = derives_order ts p (item l) h.3 in
        let off : last p ≤ j = goes_order ts ps l (last p) j h.4 in
        (m h.0, words_kept ws i h.0 (narrow i j i h.0 st (omega arith) (omega arith)) h.1, subst (λ n. Gap ts' l (m h.0) n) (sym (first_carry m p)) (gap_kept l h.0 (first p) (narrow i j h.0 (first p) st on (omega arith)) h.2), part_kept p (item l) i j st soft (omega arith) off h.3, subst (λ n. Goes ts' l n (carries m ps) (m j)) (sym (last_carry m p)) (goes_kept ps l (last p) j (narrow i j (last p) j st (omega arith) (omega arith)) soft h.4))
    spells_kept (skip ps) (Many ws l) i j v q f st soft h = absurd h

    pub goes_kept : (ps : Trees) (l : Items) (i j : ℕ) → Stay i j → Soft j → Goes ts l i ps j → Goes ts' l (m i) (carries m ps) (m j)
    goes_kept none l i j st soft (inl h) = inl (early_kept l i j st soft h)
    goes_kept none l i j st soft (inr h) =
        let on : i ≤ h.0 = between_order ts l i h.0 h.1 in
        let off : h.0 ≤ j = close_order ts l h.0 j h.2 in
        inr (m h.0, between_kept l i h.0 (narrow i j i h.0 st (omega arith) off) h.1, close_kept l h.0 j (narrow i j h.0 j st on (omega arith)) h.2)
    goes_kept (more p ps) l i j st soft h =
        let on : i ≤ h.0 = between_order ts l i h.0 h.1 in
        let in_g : h.0 ≤ first p = gap_order ts l h.0 (first p) h.2 in
        let in_p : first p ≤ last p = derives_order ts p (item l) h.3 in
        let off : last p ≤ j = goes_order ts ps l (last p) j h.4 in
        (m h.0, between_kept l i h.0 (narrow i j i h.0 st (omega arith) (omega arith)) h.1, subst (λ n. Gap ts' l (m h.0) n) (sym (first_carry m p)) (gap_kept l h.0 (first p) (narrow i j h.0 (first p) st on (omega arith)) h.2), part_kept p (item l) i j st soft (omega arith) off h.3, subst (λ n. Goes ts' l n (carries m ps) (m j)) (sym (last_carry m p)) (goes_kept ps l (last p) j (narrow i j (last p) j st (omega arith) (omega arith)) soft h.4))
    goes_kept (skip ps) l i j st soft h = absurd h

  pub derives_kept : (t : Tree) (c : Category) → Stay (first t) (last t) → Soft (last t) → Derives ts c t → Derives ts' c (carry m t)
  derives_kept t c st soft h = part_kept t c (first t) (last t) st soft (omega arith) (omega arith) h
