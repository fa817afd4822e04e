-- What the reader finds is a derivation, and it has room.
use Rattle.std.proofs.Common.{◌≡◌, ℕ, zero, suc, ◌+◌, ◌-◌, ◌<◌, ◌≤◌, ◌⊎◌, inl, inr, ⊎_elim, max, Bool, true, false, cond, List, [], ◌∷◌, Option, Some, None, refl, sym, ap, ◌∙◌, subst, arith}
use Rattle.std.specs.Prelude.{slice_get, nat_le, ◌&&◌, if◌then◌else◌}
use Rattle.std.proofs.lemmas.Bool.{leb-true}
use Rattle.go_tokens.specs.declared.token.TokenKind.{TokenKind}
use Rattle.go_tokens.specs.declared.token.TokenKind.TheVariants as token
use Rattle.go_grammar.specs.declared.kind.Kind.{Kind}
use Rattle.go_grammar.specs.declared.kind.Place.{Place}
use Rattle.go_grammar.specs.declared.kind.Category.{Category}
use Rattle.go_grammar.specs.Categories.{within, place_of}
use Rattle.go_grammar.specs.Rules.{Items, Lines, Open, Each, Again, Rule, End, Then, Maybe, Unless, Many, item}
use Rattle.go_grammar.specs.Trees.{Tree, node, Trees, none, more, skip, kind_of, first, last, parts, weight, depth, depths}
use Rattle.go_grammar.specs.Grammar.{rule, agrees, ends, IsAt, Words, Only, Gap, Close, Between, Early, Derives, Spells, Goes}
use Rattle.go_grammar.specs.declared.items.Turn.{Turn}
use Rattle.go_grammar.specs.declared.items.Turn.TheVariants.{Stop, Pass, Item}
use Rattle.go_grammar.specs.declared.items.Next.{Next}
use Rattle.go_grammar.specs.declared.items.Next.TheVariants.{On, Done, Wrong}
use Rattle.go_grammar.specs.Reader.{opens_before, begins, continues, fits, after_first, words, front, gap, turn, closing, lead, on, next, read, made, grow, grow_by, spell, option, items, items_by, goes, goes_by}
use Rattle.go_base.specs.Optional.{◌>>=◌}
use Rattle.go_grammar.specs.Words.{is_word, is_among}
use Rattle.go_grammar.proofs.Rows.{and_both}
use Rattle.go_grammar.proofs.Facts.{first_place}
use Rattle.go_grammar.proofs.Words.{at-is_word}

pub bind_some : {A B : Type 0} (o : Option A) (f : A → Option B) (y : B) → (o >>= f) ≡ Some y → (x : A) × (o ≡ Some x) × (f x ≡ Some y)
bind_some None f y h = cc
bind_some (Some x) f y h = (x, refl, h)

pub cond_some : {A : Type 0} (b : Bool) (x : Option A) (y : A) → cond b x None ≡ Some y → (b ≡ true) × (x ≡ Some y)
cond_some true x y h = (refl, h)
cond_some false x y h = cc

some_is : {A : Type 0} (x y : A) → Some x ≡ Some y → x ≡ y
some_is x y h = cc

-- one more of the separators
only_more : (ts : List TokenKind) (s : TokenKind) (i j : ℕ) → IsAt ts i s → Only ts s (suc i) j → Only ts s i j
only_more ts s i j h rest = record {
  order = omega (arith, rest.order);
  each = λ k a b. ⊎_elim (λ e. subst (λ m. IsAt ts m s) e h) (λ lt. rest.each k lt b) (cases_eq_lt i k a);
}
  where
    cases_eq_lt : (i k : ℕ) → i ≤ k → (i ≡ k) ⊎ (suc i ≤ k)
    cases_eq_lt i k a = grind arith

only_none : (ts : List TokenKind) (s : TokenKind) (i j : ℕ) → i ≡ j → Only ts s i j
only_none ts s i j e = record { order = omega arith; each = λ k a b. absurd (omega arith) }

-- a node that stands over its tokens, in a place
abbrev pub Stands : List TokenKind → Place → Tree → Type 0
Stands ts q (node k i j ps) = Spells ts (rule q k) i ps j × (agrees k ps ≡ true)

pub derives_by : (ts : List TokenKind) (c : Category) (t : Tree) → within c (kind_of t) ≡ true → ends c (kind_of t) (slice_get ts (last t)) ≡ true → Stands ts (place_of c) t → Derives ts c t
derives_by ts c (node k i j ps) w e h = (w, h.0, h.1, e)

cases : {A : Type 0} (b : Bool) (x y z : A) → cond b x y ≡ z → ((b ≡ true) × (x ≡ z)) ⊎ ((b ≡ false) × (y ≡ z))
cases true x y z h = inl (refl, h)
cases false x y z h = inr (refl, h)

both_true : (b c : Bool) → b && c ≡ true → (b ≡ true) × (c ≡ true)
both_true true c h = (refl, h)
both_true false c h = cc

stop_pass : Stop ≡ Pass → ⊥
stop_pass e = cc

item_pass : Item ≡ Pass → ⊥
item_pass e = cc

stop_item : Stop ≡ Item → ⊥
stop_item e = cc

pass_item : Pass ≡ Item → ⊥
pass_item e = cc

on_is : (i k : ℕ) → On i ≡ On k → i ≡ k
on_is i k e = cc

done_is : (i k : ℕ) → Done i ≡ Done k → i ≡ k
done_is i k e = cc

on_some : (o : Option ℕ) (k : ℕ) → on o ≡ On k → o ≡ Some k
on_some None k e = cc
on_some (Some i) k e = ap Some (on_is i k e)

on_done : (o : Option ℕ) (k : ℕ) → on o ≡ Done k → ⊥
on_done None k e = cc
on_done (Some i) k e = cc

module _ (ts : List TokenKind) where
  pub words_stand : (ws : List TokenKind) (i j : ℕ) → words ts i ws ≡ Some j → Words ts i ws j
  words_stand [] i j h = some_is i j h
  words_stand (w ∷ ws) i j h = let f = cond_some (is_word (slice_get ts i) w) (words ts (suc i) ws) j h in (at-is_word (slice_get ts i) w f.0, words_stand ws (suc i) j f.1)

  -- a node as the first part of another
  join_stands : (q : Place) (r : Rule) (p : Tree) (qs : Trees) (j : ℕ) → ((c : Category) (u : Rule) → r ≡ Then [] c u → place_of c ≡ q) → fits r (kind_of p) (slice_get ts (last p)) ≡ true → Stands ts q p → Spells ts (after_first r) (last p) qs j → Spells ts r (first p) (more p qs) j
  join_stands q (Then [] c r) p qs j e f h s =
      let b = both_true (within c (kind_of p)) (ends c (kind_of p) (slice_get ts (last p))) f in
      (refl, derives_by ts c p b.0 b.1 (subst (λ z. Stands ts z p) (sym (e c r refl)) h), s)
  join_stands q (Then (x ∷ ws) c r) p qs j e f h s = cc
  join_stands q (End ws) p qs j e f h s = cc
  join_stands q (Maybe ws c r) p qs j e f h s = cc
  join_stands q (Unless ws c us r) p qs j e f h s = cc
  join_stands q (Many ws l) p qs j e f h s = cc

  -- items, the first of which may begin at i
  abbrev ItemsFrom : Items → ℕ → Trees → ℕ → Type 0
  ItemsFrom l i none j = Close ts l i j
  ItemsFrom l i (more p ps) j = Gap ts l i (first p) × Derives ts (item l) p × Goes ts l (last p) ps j
  ItemsFrom l i (skip ps) j = ⊥

  stop_close : (l : Items) (i j : ℕ) → Words ts i (closing l) j → Close ts l i j
  stop_close (Lines true c s e) i j w = (i, only_none ts s i i refl, w.0, w.1)
  stop_close (Lines false c s e) i j w = (i, refl, w.0, w.1)
  stop_close (Open c s) i j w = only_none ts s i j w
  stop_close (Each c us vs) i j w = w
  stop_close (Again c s) i j w = w

  pass_from : (l : Items) (i : ℕ) (ps : Trees) (j : ℕ) → turn l (slice_get ts i) ≡ Pass → ItemsFrom l (suc i) ps j → ItemsFrom l i ps j
  pass_from (Lines true c s e) i ps j t h = elim (cases (is_word (slice_get ts i) e) Stop (cond (is_word (slice_get ts i) s) Pass Item) Pass t) [
    | inl a ↦ absurd (stop_pass a.1)
    | inr a ↦ elim (cases (is_word (slice_get ts i) s) Pass Item Pass a.1) [
      | inl b ↦ later ps (at-is_word (slice_get ts i) s b.0) h
      | inr b ↦ absurd (item_pass b.1)
    ]
  ]
    where
      later : (qs : Trees) → IsAt ts i s → ItemsFrom (Lines true c s e) (suc i) qs j → ItemsFrom (Lines true c s e) i qs j
      later none at g = (g.0, only_more ts s i g.0 at g.1, g.2, g.3)
      later (more p qs) at g = (only_more ts s i (first p) at g.0, g.1, g.2)
      later (skip qs) at g = absurd g
  pass_from (Lines false c s e) i ps j t h = elim (cases (is_word (slice_get ts i) e) Stop Item Pass t) [
    | inl a ↦ absurd (stop_pass a.1)
    | inr a ↦ absurd (item_pass a.1)
  ]
  pass_from (Open c s) i ps j t h = elim (cases (is_word (slice_get ts i) s) Pass (cond (begins c (slice_get ts i)) Item Stop) Pass t) [
    | inl a ↦ later ps (at-is_word (slice_get ts i) s a.0) h
    | inr a ↦ elim (cases (begins c (slice_get ts i)) Item Stop Pass a.1) [
      | inl b ↦ absurd (item_pass b.1)
      | inr b ↦ absurd (stop_pass b.1)
    ]
  ]
    where
      later : (qs : Trees) → IsAt ts i s → ItemsFrom (Open c s) (suc i) qs j → ItemsFrom (Open c s) i qs j
      later none at g = only_more ts s i j at g
      later (more p qs) at g = (only_more ts s i (first p) at g.0, g.1, g.2)
      later (skip qs) at g = absurd g
  pass_from (Each c us vs) i ps j t h = elim (cases (begins c (slice_get ts i)) Item Stop Pass t) [
    | inl a ↦ absurd (item_pass a.1)
    | inr a ↦ absurd (stop_pass a.1)
  ]
  pass_from (Again c s) i ps j t h = elim (cases (is_word (slice_get ts i) s) Item Stop Pass t) [
    | inl a ↦ absurd (item_pass a.1)
    | inr a ↦ absurd (stop_pass a.1)
  ]

  item_gap : (l : Items) (i k : ℕ) → turn l (slice_get ts i) ≡ Item → k ≡ lead l i → Gap ts l i k
  item_gap (Lines true c s e) i k t h = only_none ts s i k (sym h)
  item_gap (Lines false c s e) i k t h = sym h
  item_gap (Open c s) i k t h = only_none ts s i k (sym h)
  item_gap (Each c us vs) i k t h = sym h
  item_gap (Again c s) i k t h = elim (cases (is_word (slice_get ts i) s) Item Stop Item t) [
    | inl a ↦ (at-is_word (slice_get ts i) s a.0, sym h)
    | inr a ↦ absurd (stop_item a.1)
  ]

  pub next_between : (l : Items) (i k : ℕ) → next ts l i ≡ On k → Between ts l i k
  next_between (Lines b c s e) i k h = elim (cases (is_word (slice_get ts i) s) (On (suc i)) (cond (is_word (slice_get ts i) e) (Done (suc i)) Wrong) (On k) h) [
    | inl a ↦ (at-is_word (slice_get ts i) s a.0, on_is (suc i) k a.1)
    | inr a ↦ elim (cases (is_word (slice_get ts i) e) (Done (suc i)) Wrong (On k) a.1) [
      | inl d ↦ cc
      | inr d ↦ cc
    ]
  ]
  next_between (Open c s) i k h = elim (cases (is_word (slice_get ts i) s) (On (suc i)) (cond (is_word (slice_get ts i) token.RightBrace) (Done i) Wrong) (On k) h) [
    | inl a ↦ (at-is_word (slice_get ts i) s a.0, on_is (suc i) k a.1)
    | inr a ↦ elim (cases (is_word (slice_get ts i) token.RightBrace) (Done i) Wrong (On k) a.1) [
      | inl d ↦ cc
      | inr d ↦ cc
    ]
  ]
  next_between (Each c us vs) i k h = words_stand us i k (on_some (words ts i us) k h)
  next_between (Again c s) i k h = on_is i k h

  pub next_early : (l : Items) (i j : ℕ) → next ts l i ≡ Done j → Early ts l i j
  next_early (Lines b c s e) i j h = elim (cases (is_word (slice_get ts i) s) (On (suc i)) (cond (is_word (slice_get ts i) e) (Done (suc i)) Wrong) (Done j) h) [
    | inl a ↦ cc
    | inr a ↦ elim (cases (is_word (slice_get ts i) e) (Done (suc i)) Wrong (Done j) a.1) [
      | inl d ↦ (at-is_word (slice_get ts i) e d.0, done_is (suc i) j d.1)
      | inr d ↦ cc
    ]
  ]
  next_early (Open c s) i j h = elim (cases (is_word (slice_get ts i) s) (On (suc i)) (cond (is_word (slice_get ts i) token.RightBrace) (Done i) Wrong) (Done j) h) [
    | inl a ↦ cc
    | inr a ↦ elim (cases (is_word (slice_get ts i) token.RightBrace) (Done i) Wrong (Done j) a.1) [
      | inl d ↦ (at-is_word (slice_get ts i) token.RightBrace d.0, done_is i j d.1)
      | inr d ↦ cc
    ]
  ]
  next_early (Each c us vs) i j h = absurd (on_done (words ts i us) j h)
  next_early (Again c s) i j h = cc

  -- items behind what stands between
  goes_from : (l : Items) (i k : ℕ) (ps : Trees) (j : ℕ) → Between ts l i k → ItemsFrom l k ps j → Goes ts l i ps j
  goes_from l i k none j b h = inr (k, b, h)
  goes_from l i k (more p ps) j b h = (k, b, h.0, h.1, h.2)
  goes_from l i k (skip ps) j b h = absurd h

  items_spell : (ws : List TokenKind) (l : Items) (i k : ℕ) (ps : Trees) (j : ℕ) → Words ts i ws k → ItemsFrom l k ps j → Spells ts (Many ws l) i ps j
  items_spell ws l i k none j w h = (k, w, h)
  items_spell ws l i k (more p ps) j w h = (k, w, h.0, h.1, h.2)
  items_spell ws l i k (skip ps) j w h = absurd h

  -- what was found of a tree: a derivation from i on, of at most m levels
  abbrev Read : ℕ → Category → ℕ → Tree → Type 0
  Read m c i t = Derives ts c t × (first t ≡ i) × (depth t ≤ m)

  abbrev Grown : ℕ → Category → Tree → Tree → Type 0
  Grown m c p t = Derives ts c t × (first t ≡ first p) × (depth t ≤ m)

  abbrev Spelled : ℕ → Rule → ℕ → Trees × ℕ → Type 0
  Spelled m r i x = Spells ts r i x.0 x.1 × (depths x.0 ≤ m)

  abbrev FoundItems : ℕ → Items → ℕ → Trees × ℕ → Type 0
  FoundItems m l i x = ItemsFrom l i x.0 x.1 × (depths x.0 ≤ m)

  abbrev FoundGoes : ℕ → Items → ℕ → Trees × ℕ → Type 0
  FoundGoes m l i x = Goes ts l i x.0 x.1 × (depths x.0 ≤ m)

  -- the pair that stands behind a part
  fronted : (p : Tree) (y x : Trees × ℕ) → front p y ≡ Some x → (x.0 ≡ more p y.0) × (x.1 ≡ y.1)
  fronted p (ps, j) x h = let e : (more p ps, j) ≡ x = some_is (more p ps, j) x h in (ap (λ z. z.0) (sym e), ap (λ z. z.1) (sym e))

  gapped : (y x : Trees × ℕ) → gap y ≡ Some x → (x.0 ≡ skip y.0) × (x.1 ≡ y.1)
  gapped (ps, j) x h = let e : (skip ps, j) ≡ x = some_is (skip ps, j) x h in (ap (λ z. z.0) (sym e), ap (λ z. z.1) (sym e))

  -- the part, and then the rest, or the rest alone
  abbrev Optional : ℕ → Category → Rule → ℕ → Bool → Trees × ℕ → Type 0
  Optional m c r k true x = (p : Tree) × (ps : Trees) × (x.0 ≡ more p ps) × Read m c k p × Spells ts r (last p) ps x.1 × (depths ps ≤ m)
  Optional m c r k false x = (ps : Trees) × (x.0 ≡ skip ps) × Spells ts r k ps x.1 × (depths ps ≤ m)

  maybe_stands : (m : ℕ) (ws : List TokenKind) (c : Category) (r : Rule) (i k : ℕ) (b : Bool) (x : Trees × ℕ) → Words ts i ws k → Optional m c r k b x → Spelled m (Maybe ws c r) i x
  maybe_stands m ws c r i k true x w o =
      let w' : Words ts i ws (first o.0) = subst (λ v. Words ts i ws v) (sym o.3.1) w in
      (subst (λ ps. Spells ts (Maybe ws c r) i ps x.1) (sym o.2) (w', o.3.0, o.4), subst (λ ps. depths ps ≤ m) (sym o.2) (omega (arith, o.3.2, o.5)))
  maybe_stands m ws c r i k false x w o = (subst (λ ps. Spells ts (Maybe ws c r) i ps x.1) (sym o.1) (k, w, o.2), subst (λ ps. depths ps ≤ m) (sym o.1) o.3)

  unless_stands : (m : ℕ) (ws : List TokenKind) (c : Category) (us : List TokenKind) (r : Rule) (i k : ℕ) (b : Bool) → is_among (slice_get ts k) us ≡ b → (x : Trees × ℕ) → Words ts i ws k → Optional m c r k b x → Spelled m (Unless ws c us r) i x
  unless_stands m ws c us r i k true e x w o =
      let w' : Words ts i ws (first o.0) = subst (λ v. Words ts i ws v) (sym o.3.1) w in
      (subst (λ ps. Spells ts (Unless ws c us r) i ps x.1) (sym o.2) (w', o.3.0, o.4), subst (λ ps. depths ps ≤ m) (sym o.2) (omega (arith, o.3.2, o.5)))
  unless_stands m ws c us r i k false e x w o = (subst (λ ps. Spells ts (Unless ws c us r) i ps x.1) (sym o.1) (k, w, e, o.2), subst (λ ps. depths ps ≤ m) (sym o.1) o.3)

  mutual
    pub read_stands : (n m : ℕ) (c : Category) (i : ℕ) (t : Tree) → read n ts m c i ≡ Some t → Read m c i t
    read_stands zero m c i t h = cc
    read_stands (suc n) m c i t h =
        let a = bind_some (opens_before c (slice_get ts i)) (λ k. if nat_le (weight k) m then (spell n ts (m - weight k) (rule (place_of c) k) i >>= λ x. made n ts m c (node k i x.1 x.0)) else None) t h in
        let k = a.0 in
        let w = cond_some (nat_le (weight k) m) (spell n ts (m - weight k) (rule (place_of c) k) i >>= λ x. made n ts m c (node k i x.1 x.0)) t a.2 in
        let b = bind_some (spell n ts (m - weight k) (rule (place_of c) k) i) (λ x. made n ts m c (node k i x.1 x.0)) t w.1 in
        let s : Spelled (m - weight k) (rule (place_of c) k) i b.0 = spell_stands n (m - weight k) (rule (place_of c) k) i b.0 b.1 in
        let le : weight k ≤ m = leb-true (weight k) m w.0 in
        made_stands n m c (node k i b.0.1 b.0.0) t s.0 (omega (arith, le, s.1)) b.2

    made_stands : (n m : ℕ) (c : Category) (p t : Tree) → Spells ts (rule (place_of c) (kind_of p)) (first p) (parts p) (last p) → depth p ≤ m → made n ts m c p ≡ Some t → Grown m c p t
    made_stands zero m c p t s le h = cc
    made_stands (suc n) m c (node k i j ps) t s le h =
        let f = cond_some (agrees k ps) (grow n ts m c (node k i j ps)) t h in
        grow_stands n m c (node k i j ps) t (s, f.0) le f.1

    grow_stands : (n m : ℕ) (c : Category) (p t : Tree) → Stands ts (place_of c) p → depth p ≤ m → grow n ts m c p ≡ Some t → Grown m c p t
    grow_stands zero m c p t st le h = cc
    grow_stands (suc n) m c p t st le h = grow_by_stands n m c p t (continues c (kind_of p) (slice_get ts (last p))) refl st le h

    grow_by_stands : (n m : ℕ) (c : Category) (p t : Tree) (o : Option Kind) → continues c (kind_of p) (slice_get ts (last p)) ≡ o → Stands ts (place_of c) p → depth p ≤ m → grow_by n ts m c p o ≡ Some t → Grown m c p t
    grow_by_stands zero m c p t o q st le h = cc
    grow_by_stands (suc n) m c p t None q st le h =
        let f = cond_some (within c (kind_of p) && ends c (kind_of p) (slice_get ts (last p))) (Some p) t h in
        let b = both_true (within c (kind_of p)) (ends c (kind_of p) (slice_get ts (last p))) f.0 in
        let e : p ≡ t = some_is p t f.1 in
        subst (λ u. Grown m c p u) e (derives_by ts c p b.0 b.1 st, refl, le)
    grow_by_stands (suc n) m c p t (Some k) q st le h =
        let f = cond_some (fits (rule (place_of c) k) (kind_of p) (slice_get ts (last p)) && nat_le (weight k + depth p) m) (spell n ts (m - weight k) (after_first (rule (place_of c) k)) (last p) >>= λ x. made n ts m c (node k (first p) x.1 (more p x.0))) t h in
        let w = both_true (fits (rule (place_of c) k) (kind_of p) (slice_get ts (last p))) (nat_le (weight k + depth p) m) f.0 in
        let b = bind_some (spell n ts (m - weight k) (after_first (rule (place_of c) k)) (last p)) (λ x. made n ts m c (node k (first p) x.1 (more p x.0))) t f.1 in
        let s : Spelled (m - weight k) (after_first (rule (place_of c) k)) (last p) b.0 = spell_stands n (m - weight k) (after_first (rule (place_of c) k)) (last p) b.0 b.1 in
        let d : weight k + depth p ≤ m = leb-true (weight k + depth p) m w.1 in
        made_stands n m c (node k (first p) b.0.1 (more p b.0.0)) t (join_stands (place_of c) (rule (place_of c) k) p b.0.0 b.0.1 (λ d u e. first_place c (kind_of p) k (slice_get ts (last p)) d u q e) w.0 st s.0) (omega (arith, s.1, d)) b.2

    pub spell_stands : (n m : ℕ) (r : Rule) (i : ℕ) (x : Trees × ℕ) → spell n ts m r i ≡ Some x → Spelled m r i x
    spell_stands zero m r i x h = cc
    spell_stands (suc n) m (End ws) i x h =
        let a = bind_some (words ts i ws) (λ j. Some (none, j)) x h in
        subst (λ y. Spelled m (End ws) i y) (some_is (none, a.0) x a.2) (words_stand ws i a.0 a.1, omega arith)
    spell_stands (suc n) m (Then ws c r) i x h =
        let a = bind_some (words ts i ws) (λ k. read n ts m c k >>= λ p. spell n ts m r (last p) >>= front p) x h in
        let b = bind_some (read n ts m c a.0) (λ p. spell n ts m r (last p) >>= front p) x a.2 in
        let d = bind_some (spell n ts m r (last b.0)) (front b.0) x b.2 in
        let p : Read m c a.0 b.0 = read_stands n m c a.0 b.0 b.1 in
        let s : Spelled m r (last b.0) d.0 = spell_stands n m r (last b.0) d.0 d.1 in
        let e = fronted b.0 d.0 x d.2 in
        let w : Words ts i ws (first b.0) = subst (λ k. Words ts i ws k) (sym p.1) (words_stand ws i a.0 a.1) in
        (subst (λ ps. Spells ts (Then ws c r) i ps x.1) (sym e.0) (w, p.0, subst (λ j. Spells ts r (last b.0) d.0.0 j) (sym e.1) s.0), subst (λ ps. depths ps ≤ m) (sym e.0) (omega (arith, p.2, s.1)))
    spell_stands (suc n) m (Maybe ws c r) i x h =
        let a = bind_some (words ts i ws) (λ k. option n ts m c r k (begins c (slice_get ts k))) x h in
        let o : Optional m c r a.0 (begins c (slice_get ts a.0)) x = option_stands n m c r a.0 (begins c (slice_get ts a.0)) x a.2 in
        maybe_stands m ws c r i a.0 (begins c (slice_get ts a.0)) x (words_stand ws i a.0 a.1) o
    spell_stands (suc n) m (Unless ws c us r) i x h =
        let a = bind_some (words ts i ws) (λ k. option n ts m c r k (is_among (slice_get ts k) us)) x h in
        let o : Optional m c r a.0 (is_among (slice_get ts a.0) us) x = option_stands n m c r a.0 (is_among (slice_get ts a.0) us) x a.2 in
        unless_stands m ws c us r i a.0 (is_among (slice_get ts a.0) us) refl x (words_stand ws i a.0 a.1) o
    spell_stands (suc n) m (Many ws l) i x h =
        let a = bind_some (words ts i ws) (λ k. items n ts m l k) x h in
        let f : FoundItems m l a.0 x = items_stand n m l a.0 x a.2 in
        (items_spell ws l i a.0 x.0 x.1 (words_stand ws i a.0 a.1) f.0, f.1)

    option_stands : (n m : ℕ) (c : Category) (r : Rule) (i : ℕ) (b : Bool) (x : Trees × ℕ) → option n ts m c r i b ≡ Some x → Optional m c r i b x
    option_stands zero m c r i b x h = cc
    option_stands (suc n) m c r i true x h =
        let b = bind_some (read n ts m c i) (λ p. spell n ts m r (last p) >>= front p) x h in
        let d = bind_some (spell n ts m r (last b.0)) (front b.0) x b.2 in
        let s : Spelled m r (last b.0) d.0 = spell_stands n m r (last b.0) d.0 d.1 in
        let e = fronted b.0 d.0 x d.2 in
        (b.0, d.0.0, e.0, read_stands n m c i b.0 b.1, subst (λ j. Spells ts r (last b.0) d.0.0 j) (sym e.1) s.0, s.1)
    option_stands (suc n) m c r i false x h =
        let d = bind_some (spell n ts m r i) gap x h in
        let s : Spelled m r i d.0 = spell_stands n m r i d.0 d.1 in
        let e = gapped d.0 x d.2 in
        (d.0.0, e.0, subst (λ j. Spells ts r i d.0.0 j) (sym e.1) s.0, s.1)

    items_stand : (n m : ℕ) (l : Items) (i : ℕ) (x : Trees × ℕ) → items n ts m l i ≡ Some x → FoundItems m l i x
    items_stand zero m l i x h = cc
    items_stand (suc n) m l i x h = items_by_stand n m l i x (turn l (slice_get ts i)) refl h

    items_by_stand : (n m : ℕ) (l : Items) (i : ℕ) (x : Trees × ℕ) (t : Turn) → turn l (slice_get ts i) ≡ t → items_by n ts m l i t ≡ Some x → FoundItems m l i x
    items_by_stand zero m l i x t e h = cc
    items_by_stand (suc n) m l i x Stop e h =
        let a = bind_some (words ts i (closing l)) (λ j. Some (none, j)) x h in
        subst (λ y. FoundItems m l i y) (some_is (none, a.0) x a.2) (stop_close l i a.0 (words_stand (closing l) i a.0 a.1), omega arith)
    items_by_stand (suc n) m l i x Pass e h = let f : FoundItems m l (suc i) x = items_stand n m l (suc i) x h in (pass_from l i x.0 x.1 e f.0, f.1)
    items_by_stand (suc n) m l i x Item e h =
        let b = bind_some (read n ts m (item l) (lead l i)) (λ p. goes n ts m l (last p) >>= front p) x h in
        let d = bind_some (goes n ts m l (last b.0)) (front b.0) x b.2 in
        let p : Read m (item l) (lead l i) b.0 = read_stands n m (item l) (lead l i) b.0 b.1 in
        let s : FoundGoes m l (last b.0) d.0 = goes_stand n m l (last b.0) d.0 d.1 in
        let y = fronted b.0 d.0 x d.2 in
        (subst (λ ps. ItemsFrom l i ps x.1) (sym y.0) (item_gap l i (first b.0) e p.1, p.0, subst (λ j. Goes ts l (last b.0) d.0.0 j) (sym y.1) s.0), subst (λ ps. depths ps ≤ m) (sym y.0) (omega (arith, p.2, s.1)))

    goes_stand : (n m : ℕ) (l : Items) (i : ℕ) (x : Trees × ℕ) → goes n ts m l i ≡ Some x → FoundGoes m l i x
    goes_stand zero m l i x h = cc
    goes_stand (suc n) m l i x h = goes_by_stand n m l i x (next ts l i) refl h

    goes_by_stand : (n m : ℕ) (l : Items) (i : ℕ) (x : Trees × ℕ) (y : Next) → next ts l i ≡ y → goes_by n ts m l y ≡ Some x → FoundGoes m l i x
    goes_by_stand zero m l i x y e h = cc
    goes_by_stand (suc n) m l i x (On k) e h = let f : FoundItems m l k x = items_stand n m l k x h in (goes_from l i k x.0 x.1 (next_between l i k e) f.0, f.1)
    goes_by_stand (suc n) m l i x (Done j) e h = subst (λ y. FoundGoes m l i y) (some_is (none, j) x h) (inl (next_early l i j e), omega arith)
    goes_by_stand (suc n) m l i x Wrong e h = cc
