-- How one step of the reader goes, and where it finds nothing.
use Rattle.std.proofs.Common.{◌≡◌, ℕ, zero, suc, ◌+◌, ◌-◌, ◌≤◌, max, Bool, true, false, cond, List, [], ◌∷◌, Option, Some, None, refl, sym, ap, ◌∙◌, subst, arith}
use Rattle.std.specs.Prelude.{slice_get, nat_le, ◌&&◌}
use Rattle.go_tokens.specs.declared.token.TokenKind.{TokenKind}
use Rattle.go_grammar.specs.declared.kind.Kind.{Kind}
use Rattle.go_grammar.specs.declared.kind.Category.{Category}
use Rattle.go_grammar.specs.declared.items.Turn.TheVariants.{Stop, Pass, Item}
use Rattle.go_grammar.specs.declared.items.Next.{Next}
use Rattle.go_grammar.specs.declared.items.Next.TheVariants.{On, Done, Wrong}
use Rattle.go_grammar.specs.Categories.{within, place_of}
use Rattle.go_grammar.specs.Rules.{Items, Rule, End, Then, Maybe, Unless, Many, item}
use Rattle.go_grammar.specs.Trees.{Tree, node, Trees, none, more, kind_of, first, last, weight, depth}
use Rattle.go_grammar.specs.Grammar.{rule, agrees, ends}
use Rattle.go_grammar.specs.Reader.{opens_before, begins, continues, fits, after_first, words, front, gap, turn, closing, lead, next, read, made, grow, grow_by, spell, option, items, items_by, goes, goes_by, Tends}
use Rattle.go_base.specs.Optional.{◌>>=◌}
use Rattle.go_grammar.specs.Symbols.{prepend}
use Rattle.go_grammar.specs.Words.{is_word, is_among}
use Rattle.go_grammar.proofs.Public.{tends_step}
use Rattle.go_parse.proofs.Rows.{behind, skipped}

behind_front : (p : Tree) (x : Option (Trees × ℕ)) → (x >>= front p) ≡ behind p x
behind_front p None = refl
behind_front p (Some (ps, j)) = refl

skipped_gap : (x : Option (Trees × ℕ)) → (x >>= gap) ≡ skipped x
skipped_gap None = refl
skipped_gap (Some (ps, j)) = refl

tends_two : {A : Type 0} (f : ℕ → Option A) (r : Option A) (k : ℕ) → ((n : ℕ) → k ≤ n → f (suc (suc n)) ≡ r) → Tends f r
tends_two f r k h = tends_step f r (suc k) go
  where
    go : (n : ℕ) → suc k ≤ n → f (suc n) ≡ r
    go zero le = absurd (omega arith)
    go (suc n) le = h n (omega arith)

-- two functions that agree from 1 on
tends_same : {A : Type 0} (f g : ℕ → Option A) (x : Option A) → ((n : ℕ) → f (suc n) ≡ g (suc n)) → Tends g x → Tends f x
tends_same f g x e a = tends_step f x a.after (λ n le. e n ∙ a.by (suc n) (omega arith))

module _ (ts : List TokenKind) where
  -- what the reader does with a kind that was opened
  abbrev Opened : ℕ → ℕ → Category → ℕ → Kind → Option Tree
  Opened n m c i k = cond (nat_le (weight k) m) (spell n ts (m - weight k) (rule (place_of c) k) i >>= λ x. made n ts m c (node k i x.1 x.0)) None

  pub read_nothing : (m : ℕ) (c : Category) (i : ℕ) → opens_before c (slice_get ts i) ≡ None → Tends (λ n. read n ts m c i) None
  read_nothing m c i e = tends_step (λ n. read n ts m c i) None 0 (λ n le. ap (λ o. o >>= Opened n m c i) e)

  pub read_no_room : (m : ℕ) (k : Kind) (c : Category) (i : ℕ) → opens_before c (slice_get ts i) ≡ Some k → nat_le (weight k) m ≡ false → Tends (λ n. read n ts m c i) None
  read_no_room m k c i e f = tends_step (λ n. read n ts m c i) None 0 (λ n le. ap (λ o. o >>= Opened n m c i) e ∙ ap (λ b. cond b (spell n ts (m - weight k) (rule (place_of c) k) i >>= λ x. made n ts m c (node k i x.1 x.0)) None) f)

  read_step : (m : ℕ) (k : Kind) (c : Category) (i n : ℕ) → opens_before c (slice_get ts i) ≡ Some k → nat_le (weight k) m ≡ true → read (suc n) ts m c i ≡ (spell n ts (m - weight k) (rule (place_of c) k) i >>= λ x. made n ts m c (node k i x.1 x.0))
  read_step m k c i n e f = ap (λ o. o >>= Opened n m c i) e ∙ ap (λ b. cond b (spell n ts (m - weight k) (rule (place_of c) k) i >>= λ x. made n ts m c (node k i x.1 x.0)) None) f

  pub read_none : (m : ℕ) (k : Kind) (c : Category) (i : ℕ) → opens_before c (slice_get ts i) ≡ Some k → nat_le (weight k) m ≡ true → Tends (λ n. spell n ts (m - weight k) (rule (place_of c) k) i) None → Tends (λ n. read n ts m c i) None
  read_none m k c i e f s = tends_step (λ n. read n ts m c i) None s.after (λ n le. read_step m k c i n e f ∙ ap (λ o. o >>= λ x. made n ts m c (node k i x.1 x.0)) (s.by n le))

  pub read_disagrees : (m : ℕ) (k : Kind) (c : Category) (i j : ℕ) (ps : Trees) → opens_before c (slice_get ts i) ≡ Some k → nat_le (weight k) m ≡ true → Tends (λ n. spell n ts (m - weight k) (rule (place_of c) k) i) (Some (ps, j)) → agrees k ps ≡ false → Tends (λ n. read n ts m c i) None
  read_disagrees m k c i j ps e f s a = tends_two (λ n. read n ts m c i) None s.after (λ n le. read_step m k c i (suc n) e f ∙ ap (λ o. o >>= λ x. made (suc n) ts m c (node k i x.1 x.0)) (s.by (suc n) (omega arith)) ∙ ap (λ b. cond b (grow n ts m c (node k i j ps)) None) a)

  -- what the reader does with a kind that goes on
  abbrev Joined : ℕ → ℕ → Category → Tree → Kind → Option Tree
  Joined n m c t k = spell n ts (m - weight k) (after_first (rule (place_of c) k)) (last t) >>= λ x. made n ts m c (node k (first t) x.1 (more t x.0))

  grow_step : (m : ℕ) (p : Tree) (c : Category) (k : Kind) (b : Bool) → continues c (kind_of p) (slice_get ts (last p)) ≡ Some k → fits (rule (place_of c) k) (kind_of p) (slice_get ts (last p)) && nat_le (weight k + depth p) m ≡ b → (n : ℕ) → grow (suc (suc n)) ts m c p ≡ cond b (Joined n m c p k) None
  grow_step m p c k b e f n = ap (grow_by (suc n) ts m c p) e ∙ ap (λ b. cond b (Joined n m c p k) None) f

  pub grow_refused : (m : ℕ) (p : Tree) (c : Category) (k : Kind) → continues c (kind_of p) (slice_get ts (last p)) ≡ Some k → fits (rule (place_of c) k) (kind_of p) (slice_get ts (last p)) && nat_le (weight k + depth p) m ≡ false → Tends (λ n. grow n ts m c p) None
  grow_refused m p c k e f = tends_two (λ n. grow n ts m c p) None 0 (λ n le. grow_step m p c k false e f n)

  pub grow_none : (m : ℕ) (p : Tree) (c : Category) (k : Kind) → continues c (kind_of p) (slice_get ts (last p)) ≡ Some k → fits (rule (place_of c) k) (kind_of p) (slice_get ts (last p)) && nat_le (weight k + depth p) m ≡ true → Tends (λ n. spell n ts (m - weight k) (after_first (rule (place_of c) k)) (last p)) None → Tends (λ n. grow n ts m c p) None
  grow_none m p c k e f s = tends_two (λ n. grow n ts m c p) None s.after (λ n le. grow_step m p c k true e f n ∙ ap (λ o. o >>= λ x. made n ts m c (node k (first p) x.1 (more p x.0))) (s.by n le))

  pub grow_disagrees : (m : ℕ) (p : Tree) (c : Category) (k : Kind) (j : ℕ) (qs : Trees) → continues c (kind_of p) (slice_get ts (last p)) ≡ Some k → fits (rule (place_of c) k) (kind_of p) (slice_get ts (last p)) && nat_le (weight k + depth p) m ≡ true → Tends (λ n. spell n ts (m - weight k) (after_first (rule (place_of c) k)) (last p)) (Some (qs, j)) → agrees k (more p qs) ≡ false → Tends (λ n. grow n ts m c p) None
  grow_disagrees m p c k j qs e f s a = tends_two (λ n. grow n ts m c p) None (suc s.after) step
    where
      step : (n : ℕ) → suc s.after ≤ n → grow (suc (suc n)) ts m c p ≡ None
      step zero le = absurd (omega arith)
      step (suc n) le = grow_step m p c k true e f (suc n) ∙ ap (λ o. o >>= λ x. made (suc n) ts m c (node k (first p) x.1 (more p x.0))) (s.by (suc n) (omega arith)) ∙ ap (λ b. cond b (grow n ts m c (node k (first p) j (more p qs))) None) a

  pub grow_other : (m : ℕ) (p : Tree) (c : Category) → continues c (kind_of p) (slice_get ts (last p)) ≡ None → within c (kind_of p) && ends c (kind_of p) (slice_get ts (last p)) ≡ false → Tends (λ n. grow n ts m c p) None
  grow_other m p c e w = tends_two (λ n. grow n ts m c p) None 0 (λ n le. ap (grow_by (suc n) ts m c p) e ∙ ap (λ b. cond b (Some p) None) w)

  pub grow_whole : (m : ℕ) (p : Tree) (c : Category) → continues c (kind_of p) (slice_get ts (last p)) ≡ None → within c (kind_of p) && ends c (kind_of p) (slice_get ts (last p)) ≡ true → Tends (λ n. grow n ts m c p) (Some p)
  grow_whole m p c e w = tends_two (λ n. grow n ts m c p) (Some p) 0 (λ n le. ap (grow_by (suc n) ts m c p) e ∙ ap (λ b. cond b (Some p) None) w)

  module _ (m : ℕ) where
    -- a word in front of a right side
    spell_prepend : (r : Rule) (w : TokenKind) (i n : ℕ) → is_word (slice_get ts i) w ≡ true → spell (suc n) ts m (prepend w r) i ≡ spell (suc n) ts m r (suc i)
    spell_prepend (End ws) w i n e = ap (λ b. cond b (words ts (suc i) ws) None >>= λ j. Some (none, j)) e
    spell_prepend (Then ws c r) w i n e = ap (λ b. cond b (words ts (suc i) ws) None >>= λ k. read n ts m c k >>= λ p. spell n ts m r (last p) >>= front p) e
    spell_prepend (Maybe ws c r) w i n e = ap (λ b. cond b (words ts (suc i) ws) None >>= λ k. option n ts m c r k (begins c (slice_get ts k))) e
    spell_prepend (Unless ws c us r) w i n e = ap (λ b. cond b (words ts (suc i) ws) None >>= λ k. option n ts m c r k (is_among (slice_get ts k) us)) e
    spell_prepend (Many ws l) w i n e = ap (λ b. cond b (words ts (suc i) ws) None >>= λ k. items n ts m l k) e

    spell_other : (r : Rule) (w : TokenKind) (i n : ℕ) → is_word (slice_get ts i) w ≡ false → spell (suc n) ts m (prepend w r) i ≡ None
    spell_other (End ws) w i n e = ap (λ b. cond b (words ts (suc i) ws) None >>= λ j. Some (none, j)) e
    spell_other (Then ws c r) w i n e = ap (λ b. cond b (words ts (suc i) ws) None >>= λ k. read n ts m c k >>= λ p. spell n ts m r (last p) >>= front p) e
    spell_other (Maybe ws c r) w i n e = ap (λ b. cond b (words ts (suc i) ws) None >>= λ k. option n ts m c r k (begins c (slice_get ts k))) e
    spell_other (Unless ws c us r) w i n e = ap (λ b. cond b (words ts (suc i) ws) None >>= λ k. option n ts m c r k (is_among (slice_get ts k) us)) e
    spell_other (Many ws l) w i n e = ap (λ b. cond b (words ts (suc i) ws) None >>= λ k. items n ts m l k) e

    word_here : (b : Bool) (i j : ℕ) → cond b (Some (suc i)) None ≡ Some j → (b ≡ true) × (suc i ≡ j)
    word_here true i j e = (refl, cc)
    word_here false i j e = cc

    word_gone : (b : Bool) (i : ℕ) → cond b (Some (suc i)) None ≡ None → b ≡ false
    word_gone true i e = cc
    word_gone false i e = refl

    pub word_on : (r : Rule) (w : TokenKind) (i j : ℕ) (x : Option (Trees × ℕ)) → words ts i (w ∷ []) ≡ Some j → Tends (λ n. spell n ts m r j) x → Tends (λ n. spell n ts m (prepend w r) i) x
    word_on r w i j x e a = let h = word_here (is_word (slice_get ts i) w) i j e in tends_same (λ n. spell n ts m (prepend w r) i) (λ n. spell n ts m r (suc i)) x (λ n. spell_prepend r w i n h.0) (subst (λ k. Tends (λ n. spell n ts m r k) x) (sym h.1) a)

    pub word_off : (r : Rule) (w : TokenKind) (i : ℕ) → words ts i (w ∷ []) ≡ None → Tends (λ n. spell n ts m (prepend w r) i) None
    word_off r w i e = tends_step (λ n. spell n ts m (prepend w r) i) None 0 (λ n le. spell_other r w i n (word_gone (is_word (slice_get ts i) w) i e))

    pub part_on : (c : Category) (r : Rule) (i : ℕ) (p : Tree) (x : Option (Trees × ℕ)) → Tends (λ n. read n ts m c i) (Some p) → Tends (λ n. spell n ts m r (last p)) x → Tends (λ n. spell n ts m (Then [] c r) i) (behind p x)
    part_on c r i p x a b = tends_step (λ n. spell n ts m (Then [] c r) i) (behind p x) (max a.after b.after) (λ n le. ap (λ o. o >>= λ p. spell n ts m r (last p) >>= front p) (a.by n (omega arith)) ∙ ap (λ o. o >>= front p) (b.by n (omega arith)) ∙ behind_front p x)

    pub part_off : (c : Category) (r : Rule) (i : ℕ) → Tends (λ n. read n ts m c i) None → Tends (λ n. spell n ts m (Then [] c r) i) None
    part_off c r i a = tends_step (λ n. spell n ts m (Then [] c r) i) None a.after (λ n le. ap (λ o. o >>= λ p. spell n ts m r (last p) >>= front p) (a.by n le))

    pub option_on : (c : Category) (r : Rule) (i : ℕ) (p : Tree) (x : Option (Trees × ℕ)) → Tends (λ n. read n ts m c i) (Some p) → Tends (λ n. spell n ts m r (last p)) x → Tends (λ n. option n ts m c r i true) (behind p x)
    option_on c r i p x a b = tends_step (λ n. option n ts m c r i true) (behind p x) (max a.after b.after) (λ n le. ap (λ o. o >>= λ p. spell n ts m r (last p) >>= front p) (a.by n (omega arith)) ∙ ap (λ o. o >>= front p) (b.by n (omega arith)) ∙ behind_front p x)

    pub option_off : (c : Category) (r : Rule) (i : ℕ) → Tends (λ n. read n ts m c i) None → Tends (λ n. option n ts m c r i true) None
    option_off c r i a = tends_step (λ n. option n ts m c r i true) None a.after (λ n le. ap (λ o. o >>= λ p. spell n ts m r (last p) >>= front p) (a.by n le))

    pub option_skips : (c : Category) (r : Rule) (i : ℕ) (x : Option (Trees × ℕ)) → Tends (λ n. spell n ts m r i) x → Tends (λ n. option n ts m c r i false) (skipped x)
    option_skips c r i x a = tends_step (λ n. option n ts m c r i false) (skipped x) a.after (λ n le. ap (λ o. o >>= gap) (a.by n le) ∙ skipped_gap x)

    pub maybe_all : (c : Category) (r : Rule) (i : ℕ) (x : Option (Trees × ℕ)) → Tends (λ n. option n ts m c r i (begins c (slice_get ts i))) x → Tends (λ n. spell n ts m (Maybe [] c r) i) x
    maybe_all c r i x a = tends_step (λ n. spell n ts m (Maybe [] c r) i) x a.after (λ n le. a.by n le)

    pub unless_all : (c : Category) (us : List TokenKind) (r : Rule) (i : ℕ) (x : Option (Trees × ℕ)) → Tends (λ n. option n ts m c r i (is_among (slice_get ts i) us)) x → Tends (λ n. spell n ts m (Unless [] c us r) i) x
    unless_all c us r i x a = tends_step (λ n. spell n ts m (Unless [] c us r) i) x a.after (λ n le. a.by n le)

    pub many_all : (l : Items) (i : ℕ) (x : Option (Trees × ℕ)) → Tends (λ n. items n ts m l i) x → Tends (λ n. spell n ts m (Many [] l) i) x
    many_all l i x a = tends_step (λ n. spell n ts m (Many [] l) i) x a.after (λ n le. a.by n le)

    pub end_all : (i : ℕ) → Tends (λ n. spell n ts m (End []) i) (Some (none, i))
    end_all i = tends_step (λ n. spell n ts m (End []) i) (Some (none, i)) 0 (λ n le. refl)

    -- items
    pub stop_on : (l : Items) (i j : ℕ) → turn l (slice_get ts i) ≡ Stop → words ts i (closing l) ≡ Some j → Tends (λ n. items n ts m l i) (Some (none, j))
    stop_on l i j e w = tends_two (λ n. items n ts m l i) (Some (none, j)) 0 (λ n le. ap (items_by (suc n) ts m l i) e ∙ ap (λ o. o >>= λ j. Some (none, j)) w)

    pub stop_off : (l : Items) (i : ℕ) → turn l (slice_get ts i) ≡ Stop → words ts i (closing l) ≡ None → Tends (λ n. items n ts m l i) None
    stop_off l i e w = tends_two (λ n. items n ts m l i) None 0 (λ n le. ap (items_by (suc n) ts m l i) e ∙ ap (λ o. o >>= λ j. Some (none, j)) w)

    pub pass_on : (l : Items) (i j : ℕ) (x : Option (Trees × ℕ)) → turn l (slice_get ts i) ≡ Pass → j ≡ suc i → Tends (λ n. items n ts m l j) x → Tends (λ n. items n ts m l i) x
    pass_on l i j x e s a = let a' = subst (λ k. Tends (λ n. items n ts m l k) x) s a in tends_two (λ n. items n ts m l i) x a'.after (λ n le. ap (items_by (suc n) ts m l i) e ∙ a'.by n le)

    item_step : (l : Items) (i n : ℕ) → turn l (slice_get ts i) ≡ Item → items (suc (suc n)) ts m l i ≡ (read n ts m (item l) (lead l i) >>= λ p. goes n ts m l (last p) >>= front p)
    item_step l i n e = ap (items_by (suc n) ts m l i) e

    goes_by_on : (l : Items) (i : ℕ) (y : Next) (x : Option (Trees × ℕ)) → next ts l i ≡ y → Tends (λ n. goes_by n ts m l y) x → Tends (λ n. goes n ts m l i) x
    goes_by_on l i y x e a = tends_step (λ n. goes n ts m l i) x a.after (λ n le. ap (goes_by n ts m l) e ∙ a.by n le)

    item_goes : (l : Items) (i : ℕ) (p : Tree) (x : Option (Trees × ℕ)) → turn l (slice_get ts i) ≡ Item → Tends (λ n. read n ts m (item l) (lead l i)) (Some p) → Tends (λ n. goes n ts m l (last p)) x → Tends (λ n. items n ts m l i) (behind p x)
    item_goes l i p x e a b = tends_two (λ n. items n ts m l i) (behind p x) (max a.after b.after) (λ n le. item_step l i n e ∙ ap (λ o. o >>= λ p. goes n ts m l (last p) >>= front p) (a.by n (omega arith)) ∙ ap (λ o. o >>= front p) (b.by n (omega arith)) ∙ behind_front p x)

    pub item_on : (l : Items) (i k : ℕ) (p : Tree) (x : Option (Trees × ℕ)) → turn l (slice_get ts i) ≡ Item → Tends (λ n. read n ts m (item l) (lead l i)) (Some p) → next ts l (last p) ≡ On k → Tends (λ n. items n ts m l k) x → Tends (λ n. items n ts m l i) (behind p x)
    item_on l i k p x e a f b = item_goes l i p x e a (goes_by_on l (last p) (On k) x f (tends_step (λ n. goes_by n ts m l (On k)) x b.after (λ n le. b.by n le)))

    pub item_done : (l : Items) (i j : ℕ) (p : Tree) → turn l (slice_get ts i) ≡ Item → Tends (λ n. read n ts m (item l) (lead l i)) (Some p) → next ts l (last p) ≡ Done j → Tends (λ n. items n ts m l i) (Some (more p none, j))
    item_done l i j p e a f = item_goes l i p (Some (none, j)) e a (goes_by_on l (last p) (Done j) (Some (none, j)) f (tends_step (λ n. goes_by n ts m l (Done j)) (Some (none, j)) 0 (λ n le. refl)))

    pub item_wrong : (l : Items) (i : ℕ) (p : Tree) → turn l (slice_get ts i) ≡ Item → Tends (λ n. read n ts m (item l) (lead l i)) (Some p) → next ts l (last p) ≡ Wrong → Tends (λ n. items n ts m l i) None
    item_wrong l i p e a f = item_goes l i p None e a (goes_by_on l (last p) Wrong None f (tends_step (λ n. goes_by n ts m l Wrong) None 0 (λ n le. refl)))

    pub item_off : (l : Items) (i : ℕ) → turn l (slice_get ts i) ≡ Item → Tends (λ n. read n ts m (item l) (lead l i)) None → Tends (λ n. items n ts m l i) None
    item_off l i e a = tends_two (λ n. items n ts m l i) None a.after (λ n le. item_step l i n e ∙ ap (λ o. o >>= λ p. goes n ts m l (last p) >>= front p) (a.by n le))
