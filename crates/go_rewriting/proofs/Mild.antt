-- A text other than a clause depends on no closing brace behind it. So it also stands before another token, where that is no
-- opening brace, and behind a closing parenthesis no word that begins a result, unless the old one is.
use Rattle.std.proofs.Common.{◌≡◌, ℕ, suc, ◌<◌, ◌≤◌, ◌⊎◌, inl, inr, Bool, true, false, not, List, [], ◌∷◌, refl, sym, ap, ◌∙◌, subst, arith}
use Rattle.std.specs.Prelude.{slice_get, ◌&&◌, ◌||◌}
use Rattle.go_tokens.specs.declared.token.TokenKind.{TokenKind}
use Rattle.go_grammar.specs.declared.kind.Kind.{Kind}
use Rattle.go_grammar.specs.declared.kind.Kind.TheVariants as kind
use Rattle.go_grammar.specs.declared.kind.Place.{Place}
use Rattle.go_grammar.specs.declared.kind.Place.TheVariants as place
use Rattle.go_grammar.specs.declared.kind.Category.{Category}
use Rattle.go_grammar.specs.declared.kind.Category.TheVariants as category
use Rattle.go_grammar.specs.Categories.{within, place_of}
use Rattle.go_grammar.specs.Rules.{Items, Lines, Open, Each, Again, Rule, End, Then, Maybe, Unless, Many, item}
use Rattle.go_grammar.specs.Trees.{Tree, node, Trees, none, more, skip, first, last}
use Rattle.go_grammar.specs.Grammar.{rule, result_words, Words, Gap, Between, Early, Derives, Spells, Goes}
use Rattle.go_grammar.specs.Words.{is_among}
use Rattle.go_grammar.proofs.Public.{all, kinds, kinds_at, categories, categories_at, and_both, same_category, words_order, gap_order, close_order, between_order, derives_order, spells_order, goes_order}
use Rattle.go_rewriting.specs.Replacing.{moved, Edge, Run}
use Rattle.go_rewriting.specs.Lists.{no_clause, Elsewhere, in_block, in_clause}
use Rattle.go_rewriting.specs.Places.{carry, carries}
use Rattle.go_rewriting.proofs.Results.{led, rule_led, led_words, Closed, closed_behind, not_yet, ends_closed}
use Rattle.go_rewriting.proofs.Texts.{run_order}
use Rattle.go_rewriting.proofs.Kept.{Stay, narrow, soft_same, part_kept, words_kept, gap_kept, close_kept, between_kept, agrees_carried, ends_edge, false_kept, first_carry, last_carry}

abbrev is_clause : Kind → Bool
is_clause kind.Case = true
is_clause kind.Default = true
is_clause k = false

some_words : List TokenKind → Bool
some_words [] = false
some_words (w ∷ ws) = true

-- no part is a clause but for those with a word behind all, and the row doesn't end with open items
abbrev tight_items : Items → Bool
tight_items (Lines b c s e) = no_clause c
tight_items (Open c s) = false
tight_items (Each c us []) = no_clause c
tight_items (Each c us (v ∷ vs)) = true
tight_items (Again c s) = no_clause c

abbrev tight : Rule → Bool
tight (End ws) = true
tight (Then ws c r) = no_clause c && tight r
tight (Maybe ws c r) = no_clause c && tight r
tight (Unless ws c us r) = no_clause c && tight r
tight (Many ws l) = tight_items l

abbrev tight_of : Place → Kind → Bool
tight_of p k = is_clause k || tight (rule p k)

free_tight : all (tight_of place.Free) kinds ≡ true
free_tight = refl

header_tight : all (tight_of place.Header) kinds ≡ true
header_tight = refl

abbrev alone_of : Kind → Category → Bool
alone_of k c = not (within c k) || not (no_clause c)

case_alone : all (alone_of kind.Case) categories ≡ true
case_alone = refl

default_alone : all (alone_of kind.Default) categories ≡ true
default_alone = refl

true_of : (a b : Bool) → (a || b) ≡ true → a ≡ false → b ≡ true
true_of true b h e = cc
true_of false b h e = h

rule_tight : (p : Place) (k : Kind) → is_clause k ≡ false → tight (rule p k) ≡ true
rule_tight place.Free k e = true_of (is_clause k) (tight (rule place.Free k)) (kinds_at (tight_of place.Free) free_tight k) e
rule_tight place.Header k e = true_of (is_clause k) (tight (rule place.Header k)) (kinds_at (tight_of place.Header) header_tight k) e

clash : (w s : Bool) → (not w || not s) ≡ true → w ≡ true → s ≡ true → ⊥
clash true true h e n = cc
clash true false h e n = cc
clash false s h e n = cc

no_clause_kind : (c : Category) (k : Kind) → within c k ≡ true → no_clause c ≡ true → is_clause k ≡ false
no_clause_kind c kind.Case h n = absurd (clash (within c kind.Case) (no_clause c) (categories_at (alone_of kind.Case) case_alone c) h n)
no_clause_kind c kind.Default h n = absurd (clash (within c kind.Default) (no_clause c) (categories_at (alone_of kind.Default) default_alone c) h n)
no_clause_kind c _ h n = refl

module _ (ts ts' : List TokenKind) (m : ℕ → ℕ) where
  apart : (i k : ℕ) → i ≤ k → (i ≡ k) ⊎ (i < k)
  apart i k le = grind arith

  -- what stands in the place behind a text doesn't spoil the text, a closing brace aside
  abbrev pub Mild : ℕ → Type 0
  Mild n = Edge ts ts' n (m n)

  mild_at : (i j n : ℕ) → Stay ts ts' m i j → i ≤ n → n ≤ j → Mild j → Mild n
  mild_at i j n st lo hi s = elim (apart n j hi) [
    | inl same ↦ subst (λ k. Edge ts ts' k (m k)) (sym same) s
    | inr lt ↦ (soft_same ts ts' m n (st n lo lt).same).edge
  ]

  among_mild : (us : List TokenKind) (n : ℕ) → us ≡ result_words → Closed ts n → Mild n → is_among (slice_get ts n) us ≡ false → is_among (slice_get ts' (m n)) us ≡ false
  among_mild us n is c s h =
      let h' : is_among (slice_get ts n) result_words ≡ false = subst (λ vs. is_among (slice_get ts n) vs ≡ false) is h in
      subst (λ vs. is_among (slice_get ts' (m n)) vs ≡ false) (sym is) (false_kept (is_among (slice_get ts n) result_words) (is_among (slice_get ts' (m n)) result_words) (s.result c.place c.next c.is) h')

  -- a clause in front of words lies in front of the end
  each_far : (ps : Trees) (c : Category) (us : List TokenKind) (v : TokenKind) (vs : List TokenKind) (i j : ℕ) → Goes ts (Each c us (v ∷ vs)) i ps j → i < j
  each_far none c us v vs i j (inl h) = absurd h
  each_far none c us v vs i j (inr h) = omega (arith, between_order ts (Each c us (v ∷ vs)) i h.0 h.1, words_order ts vs (suc h.0) j h.2.1)
  each_far (more p ps) c us v vs i j h = omega (arith, between_order ts (Each c us (v ∷ vs)) i h.0 h.1, gap_order ts (Each c us (v ∷ vs)) h.0 (first p) h.2, derives_order ts p c h.3, each_far ps c us v vs (last p) j h.4)
  each_far (skip ps) c us v vs i j h = absurd h

  -- an item: a clause lies in front of the end, and others are no clauses
  one_item : (l : Items) (p : Tree) (ps : Trees) (i j : ℕ) → Stay ts ts' m i j → Mild j → i ≤ first p → last p ≤ j → tight_items l ≡ true → ((c : Category) → no_clause c ≡ true → Derives ts c p → Derives ts' c (carry m p)) → Derives ts (item l) p → Goes ts l (last p) ps j → Derives ts' (item l) (carry m p)
  one_item (Lines b c s e) p ps i j st soft lo hi z f d g = f c z d
  one_item (Open c s) p ps i j st soft lo hi z f d g = cc
  one_item (Each c us []) p ps i j st soft lo hi z f d g = f c z d
  one_item (Each c us (v ∷ vs)) p ps i j st soft lo hi z f d g =
      let lt : last p < j = each_far ps c us v vs (last p) j g in
      let on : first p ≤ last p = derives_order ts p c d in
      part_kept ts ts' m p c i (last p) (narrow ts ts' m i j i (last p) st (omega arith) hi) (soft_same ts ts' m (last p) (st (last p) (omega (arith, lo, on)) lt).same) lo (omega arith) d
  one_item (Again c s) p ps i j st soft lo hi z f d g = f c z d

  early_mild : (l : Items) (i j : ℕ) → tight_items l ≡ true → Stay ts ts' m i j → Early ts l i j → Early ts' l (m i) (m j)
  early_mild (Lines b c s e) i j z st h = let lt : i < j = omega (arith, h.1) in ((st i (omega arith) lt).same ∙ h.0, sym (st i (omega arith) lt).next ∙ ap m h.1)
  early_mild (Open c s) i j z st h = cc
  early_mild (Each c us vs) i j z st h = absurd h
  early_mild (Again c s) i j z st h = absurd h

  mutual
    pub part_mild : (t : Tree) (c : Category) (i j : ℕ) → Stay ts ts' m i j → Mild j → i ≤ first t → last t ≤ j → no_clause c ≡ true → Derives ts c t → Derives ts' c (carry m t)
    part_mild (node k a b ps) c i j st mild lo hi free h =
        let on : a ≤ b = spells_order ts ps (rule (place_of c) k) a b h.1 in
        let mild_b : Mild b = mild_at i j b st (omega (arith, lo, on)) hi mild in
        (h.0, spells_mild ps (rule (place_of c) k) a b false (rule_led (place_of c) k) (not_yet ts a) (rule_tight (place_of c) k (no_clause_kind c k h.0 free)) (narrow ts ts' m i j a b st lo hi) mild_b h.1, agrees_carried m k ps ∙ h.2, ends_edge c k (slice_get ts b) (slice_get ts' (m b)) mild_b.brace h.3)

    spells_mild : (ps : Trees) (r : Rule) (i j : ℕ) (b : Bool) → led b r ≡ true → (b ≡ true → Closed ts i) → tight r ≡ true → Stay ts ts' m i j → Mild j → Spells ts r i ps j → Spells ts' r (m i) (carries m ps) (m j)
    spells_mild none (End ws) i j v q f z st soft h = words_kept ts ts' m ws i j st h
    spells_mild (more p ps) (End ws) i j v q f z st soft h = absurd h
    spells_mild (skip ps) (End ws) i j v q f z st soft h = absurd h
    spells_mild none (Then ws c r) i j v q f z st soft h = absurd h
    spells_mild (more p ps) (Then ws c r) i j v q f z st soft h =
        let t = and_both (no_clause c) (tight r) z in
        let on : i ≤ first p = words_order ts ws i (first p) h.0 in
        let in_p : first p ≤ last p = derives_order ts p c h.1 in
        let off : last p ≤ j = spells_order ts ps r (last p) j h.2 in
        (subst (λ n. Words ts' (m i) ws n) (sym (first_carry m p)) (words_kept ts ts' m ws i (first p) (narrow ts ts' m i j i (first p) st (omega arith) (omega arith)) h.0), part_mild p c i j st soft on off t.0 h.1, subst (λ n. Spells ts' r n (carries m ps) (m j)) (sym (last_carry m p)) (spells_mild ps r (last p) j (same_category c category.Parameters) q (ends_closed ts c p h.1) t.1 (narrow ts ts' m i j (last p) j st (omega arith) (omega arith)) soft h.2))
    spells_mild (skip ps) (Then ws c r) i j v q f z st soft h = absurd h
    spells_mild none (Maybe ws c r) i j v q f z st soft h = absurd h
    spells_mild (more p ps) (Maybe ws c r) i j v q f z st soft h =
        let t = and_both (no_clause c) (tight r) z in
        let on : i ≤ first p = words_order ts ws i (first p) h.0 in
        let in_p : first p ≤ last p = derives_order ts p c h.1 in
        let off : last p ≤ j = spells_order ts ps r (last p) j h.2 in
        (subst (λ n. Words ts' (m i) ws n) (sym (first_carry m p)) (words_kept ts ts' m ws i (first p) (narrow ts ts' m i j i (first p) st (omega arith) (omega arith)) h.0), part_mild p c i j st soft on off t.0 h.1, subst (λ n. Spells ts' r n (carries m ps) (m j)) (sym (last_carry m p)) (spells_mild ps r (last p) j false q (not_yet ts (last p)) t.1 (narrow ts ts' m i j (last p) j st (omega arith) (omega arith)) soft h.2))
    spells_mild (skip ps) (Maybe ws c r) i j v q f z st soft h =
        let t = and_both (no_clause c) (tight r) z in
        let on : i ≤ h.0 = words_order ts ws i h.0 h.1 in
        let off : h.0 ≤ j = spells_order ts ps r h.0 j h.2 in
        (m h.0, words_kept ts ts' m ws i h.0 (narrow ts ts' m i j i h.0 st (omega arith) off) h.1, spells_mild ps r h.0 j false q (not_yet ts h.0) t.1 (narrow ts ts' m i j h.0 j st on (omega arith)) soft h.2)
    spells_mild none (Unless ws c us r) i j v q f z st soft h = absurd h
    spells_mild (more p ps) (Unless ws c us r) i j v q f z st soft h =
        let t = and_both (no_clause c) (tight r) z in
        let u = led_words ts ws c us r v i q f in
        let on : i ≤ first p = words_order ts ws i (first p) h.0 in
        let in_p : first p ≤ last p = derives_order ts p c h.1 in
        let off : last p ≤ j = spells_order ts ps r (last p) j h.2 in
        (subst (λ n. Words ts' (m i) ws n) (sym (first_carry m p)) (words_kept ts ts' m ws i (first p) (narrow ts ts' m i j i (first p) st (omega arith) (omega arith)) h.0), part_mild p c i j st soft on off t.0 h.1, subst (λ n. Spells ts' r n (carries m ps) (m j)) (sym (last_carry m p)) (spells_mild ps r (last p) j false u.rest (not_yet ts (last p)) t.1 (narrow ts ts' m i j (last p) j st (omega arith) (omega arith)) soft h.2))
    spells_mild (skip ps) (Unless ws c us r) i j v q f z st soft h =
        let t = and_both (no_clause c) (tight r) z in
        let on : i ≤ h.0 = words_order ts ws i h.0 h.1 in
        let off : h.0 ≤ j = spells_order ts ps r h.0 j h.3 in
        let u = led_words ts ws c us r v i q f in
        (m h.0, words_kept ts ts' m ws i h.0 (narrow ts ts' m i j i h.0 st (omega arith) off) h.1, among_mild us h.0 u.words (closed_behind ts ws i h.0 u.none h.1 u.closed) (mild_at i j h.0 st on off soft) h.2, spells_mild ps r h.0 j false u.rest (not_yet ts h.0) t.1 (narrow ts ts' m i j h.0 j st on (omega arith)) soft h.3)
    spells_mild none (Many ws l) i j v q f z st soft h =
        let on : i ≤ h.0 = words_order ts ws i h.0 h.1 in
        let off : h.0 ≤ j = close_order ts l h.0 j h.2 in
        (m h.0, words_kept ts ts' m ws i h.0 (narrow ts ts' m i j i h.0 st (omega arith) off) h.1, close_kept ts ts' m l h.0 j (narrow ts ts' m i j h.0 j st on (omega arith)) h.2)
    spells_mild (more p ps) (Many ws l) i j v q f z st soft h =
        let on : i ≤ h.0 = words_order ts ws i h.0 h.1 in
        let in_g : h.0 ≤ first p = gap_order ts l h.0 (first p) h.2 in
        let in_p : first p ≤ last p = derives_order ts p (item l) h.3 in
        let off : last p ≤ j = goes_order ts ps l (last p) j h.4 in
        (m h.0, words_kept ts ts' m ws i h.0 (narrow ts ts' m i j i h.0 st (omega arith) (omega arith)) h.1, subst (λ n. Gap ts' l (m h.0) n) (sym (first_carry m p)) (gap_kept ts ts' m l h.0 (first p) (narrow ts ts' m i j h.0 (first p) st on (omega arith)) h.2), one_item l p ps i j st soft (omega arith) off z (λ c free d. part_mild p c i j st soft (omega arith) off free d) h.3 h.4, subst (λ n. Goes ts' l n (carries m ps) (m j)) (sym (last_carry m p)) (goes_mild ps l (last p) j z (narrow ts ts' m i j (last p) j st (omega arith) (omega arith)) soft h.4))
    spells_mild (skip ps) (Many ws l) i j v q f z st soft h = absurd h

    goes_mild : (ps : Trees) (l : Items) (i j : ℕ) → tight_items l ≡ true → Stay ts ts' m i j → Mild j → Goes ts l i ps j → Goes ts' l (m i) (carries m ps) (m j)
    goes_mild none l i j z st soft (inl h) = inl (early_mild l i j z st h)
    goes_mild none l i j z st soft (inr h) =
        let on : i ≤ h.0 = between_order ts l i h.0 h.1 in
        let off : h.0 ≤ j = close_order ts l h.0 j h.2 in
        inr (m h.0, between_kept ts ts' m l i h.0 (narrow ts ts' m i j i h.0 st (omega arith) off) h.1, close_kept ts ts' m l h.0 j (narrow ts ts' m i j h.0 j st on (omega arith)) h.2)
    goes_mild (more p ps) l i j z st soft h =
        let on : i ≤ h.0 = between_order ts l i h.0 h.1 in
        let in_g : h.0 ≤ first p = gap_order ts l h.0 (first p) h.2 in
        let in_p : first p ≤ last p = derives_order ts p (item l) h.3 in
        let off : last p ≤ j = goes_order ts ps l (last p) j h.4 in
        (m h.0, between_kept ts ts' m l i h.0 (narrow ts ts' m i j i h.0 st (omega arith) (omega arith)) h.1, subst (λ n. Gap ts' l (m h.0) n) (sym (first_carry m p)) (gap_kept ts ts' m l h.0 (first p) (narrow ts ts' m i j h.0 (first p) st on (omega arith)) h.2), one_item l p ps i j st soft (omega arith) off z (λ c free d. part_mild p c i j st soft (omega arith) off free d) h.3 h.4, subst (λ n. Goes ts' l n (carries m ps) (m j)) (sym (last_carry m p)) (goes_mild ps l (last p) j z (narrow ts ts' m i j (last p) j st (omega arith) (omega arith)) soft h.4))
    goes_mild (skip ps) l i j z st soft h = absurd h

  -- a run of items that are no clauses
  pub run_mild : (l : Items) (new : Trees) (a b : ℕ) → no_clause (item l) ≡ true → Stay ts ts' m a b → Mild b → Run ts l new a b → Run ts' l (carries m new) (m a) (m b)
  run_mild l none a b free st soft r = absurd r
  run_mild l (skip ps) a b free st soft r = absurd r
  run_mild l (more p none) a b free st soft r = (first_carry m p ∙ ap m r.0, part_mild p (item l) a b st soft (omega (arith, r.0)) (omega (arith, r.2)) free r.1, last_carry m p ∙ ap m r.2)
  run_mild l (more p (skip qs)) a b free st soft r = absurd r
  run_mild l (more p (more q qs)) a b free st soft r =
      let in_p : first p ≤ last p = derives_order ts p (item l) r.1 in
      let on : last p ≤ r.2 = between_order ts l (last p) r.2 r.3 in
      let in_g : r.2 ≤ first q = gap_order ts l r.2 (first q) r.4 in
      let off : first q ≤ b = run_order ts l (more q qs) (first q) b r.5 in
      let between : Between ts' l (m (last p)) (m r.2) = between_kept ts ts' m l (last p) r.2 (narrow ts ts' m a b (last p) r.2 st (omega (arith, r.0, in_p)) (omega (arith, in_g, off))) r.3 in
      let gap : Gap ts' l (m r.2) (m (first q)) = gap_kept ts ts' m l r.2 (first q) (narrow ts ts' m a b r.2 (first q) st (omega (arith, r.0, in_p, on)) off) r.4 in
      let rest : Run ts' l (carries m (more q qs)) (m (first q)) (m b) = run_mild l (more q qs) (first q) b free (narrow ts ts' m a b (first q) b st (omega (arith, r.0, in_p, on, in_g)) (omega arith)) soft r.5 in (
        first_carry m p ∙ ap m r.0,
        part_mild p (item l) a b st soft (omega (arith, r.0)) (omega (arith, on, in_g, off)) free r.1,
        m r.2,
        subst (λ n. Between ts' l n (m r.2)) (sym (last_carry m p)) between,
        subst (λ n. Gap ts' l (m r.2) n) (sym (first_carry m q)) gap,
        subst (λ n. Run ts' l (carries m (more q qs)) n (m b)) (sym (first_carry m q)) rest,
      )

stay_elsewhere : (ts us : List TokenKind) (i j to : ℕ) → Elsewhere ts us i j to → Stay ts us (moved i to) i j
stay_elsewhere ts us i j to e n lo hi = record { same = e.same n lo hi; next = omega (arith, lo) }

pub text_elsewhere : (ts us : List TokenKind) (i j to : ℕ) → Elsewhere ts us i j to → (c : Category) (t : Tree) → no_clause c ≡ true → i ≤ first t → last t ≤ j → Derives ts c t → Derives us c (carry (moved i to) t)
text_elsewhere ts us i j to e c t free lo hi h = part_mild ts us (moved i to) t c i j (stay_elsewhere ts us i j to e) e.edge lo hi free h

pub run_elsewhere : (ts us : List TokenKind) (i j to : ℕ) → Elsewhere ts us i j to → (l : Items) (new : Trees) → no_clause (item l) ≡ true → Run ts l new i j → Run us l (carries (moved i to) new) to (moved i to j)
run_elsewhere ts us i j to e l new free r =
    let here : moved i to i ≡ to = omega arith in
    subst (λ n. Run us l (carries (moved i to) new) n (moved i to j)) here (run_mild ts us (moved i to) l new i j free (stay_elsewhere ts us i j to e) e.edge r)

-- the statements of a block may be those of a clause, and the other way round
pub clause_run : (ts : List TokenKind) (new : Trees) (a b : ℕ) → Run ts in_block new a b → Run ts in_clause new a b
clause_run ts none a b r = absurd r
clause_run ts (skip ps) a b r = absurd r
clause_run ts (more p none) a b r = r
clause_run ts (more p (skip qs)) a b r = absurd r
clause_run ts (more p (more q qs)) a b r = (r.0, r.1, r.2, r.3, r.4, clause_run ts (more q qs) (first q) b r.5)

pub block_run : (ts : List TokenKind) (new : Trees) (a b : ℕ) → Run ts in_clause new a b → Run ts in_block new a b
block_run ts none a b r = absurd r
block_run ts (skip ps) a b r = absurd r
block_run ts (more p none) a b r = r
block_run ts (more p (skip qs)) a b r = absurd r
block_run ts (more p (more q qs)) a b r = (r.0, r.1, r.2, r.3, r.4, block_run ts (more q qs) (first q) b r.5)
