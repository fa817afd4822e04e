-- How one step of the reader goes, where it finds something.
use Rattle.std.proofs.Common.{◌≡◌, ℕ, zero, suc, ◌+◌, ◌-◌, ◌<◌, ◌≤◌, ◌⊎◌, inl, inr, ⊎_elim, max, Bool, true, false, cond, List, [], ◌∷◌, Option, Some, None, refl, sym, ap, ◌∙◌, subst, arith}
use Rattle.std.specs.Prelude.{slice_get, nat_le, ◌&&◌}
use Rattle.std.proofs.lemmas.Bool.{le-leb}
use Rattle.go_tokens.specs.declared.token.TokenKind.{TokenKind}
use Rattle.go_tokens.specs.declared.token.TokenKind.TheVariants as token
use Rattle.go_grammar.specs.declared.kind.Kind.{Kind}
use Rattle.go_grammar.specs.declared.kind.Category.{Category}
use Rattle.go_grammar.specs.Categories.{within, place_of}
use Rattle.go_grammar.specs.Rules.{Items, Lines, Open, Each, Again, Rule, End, Then, Maybe, Unless, Many, item}
use Rattle.go_grammar.specs.Trees.{Tree, node, Trees, none, more, skip, kind_of, first, last, parts, weight, depth, depths}
use Rattle.go_grammar.specs.Grammar.{rule, agrees, ends, IsAt, Words, Only, Gap, Close, Between, Early}
use Rattle.go_grammar.specs.declared.items.Turn.{Turn}
use Rattle.go_grammar.specs.declared.items.Turn.TheVariants.{Stop, Pass, Item}
use Rattle.go_grammar.specs.declared.items.Next.{Next}
use Rattle.go_grammar.specs.declared.items.Next.TheVariants.{On, Done, Wrong}
use Rattle.go_grammar.specs.Reader.{opens_before, begins, continues, fits, after_first, words, front, gap, turn, closing, lead, on, next, read, made, grow, grow_by, spell, option, items, items_by, goes, goes_by, Tends}
use Rattle.go_base.specs.Optional.{◌>>=◌}
use Rattle.go_grammar.specs.Words.{is_word, is_among}
use Rattle.go_grammar.proofs.Words.{is_word-at, at-is_word}
use Rattle.go_grammar.proofs.Rows.{and_both, every, every_at}
use Rattle.go_grammar.proofs.Check.{implies, not, heads, items_told}
use Rattle.go_grammar.proofs.Facts.{implied, not_true, both}
use Rattle.go_grammar.proofs.Starts.{heads_at}

pub tends_step : {A : Type 0} (f : ℕ → Option A) (r : Option A) (n : ℕ) → ((m : ℕ) → n ≤ m → f (suc m) ≡ r) → Tends f r
tends_step f r n h = record { after = suc n; by = go }
  where
    go : (m : ℕ) → suc n ≤ m → f m ≡ r
    go zero le = absurd (omega arith)
    go (suc m) le = h m (omega arith)

-- a function tends to one answer
pub tends_one : {A : Type 0} (f : ℕ → Option A) (x y : Option A) → Tends f x → Tends f y → x ≡ y
tends_one f x y a b = let e = a.by (max a.after b.after) (omega arith) in let e' = b.by (max a.after b.after) (omega arith) in cc

-- a token that f takes is none that it doesn't take
pub apart : (f : Option TokenKind → Bool) (w : Option TokenKind) (x : TokenKind) → f w ≡ true → f (Some x) ≡ false → is_word w x ≡ false
apart f w x t e = go (is_word w x) refl
  where
    go : (b : Bool) → is_word w x ≡ b → b ≡ false
    go false s = refl
    go true s = let same : w ≡ Some x = at-is_word w x s in let u : f (Some x) ≡ true = subst (λ v. f v ≡ true) same t in cc

module _ (ts : List TokenKind) where
  pub words_read : (ws : List TokenKind) (i j : ℕ) → Words ts i ws j → words ts i ws ≡ Some j
  words_read [] i j h = ap Some h
  words_read (w ∷ ws) i j h = ap (λ b. cond b (words ts (suc i) ws) None) (is_word-at (slice_get ts i) w h.0) ∙ words_read ws (suc i) j h.1

  not_word : (i : ℕ) (x y : TokenKind) → IsAt ts i x → is_word (Some x) y ≡ false → is_word (slice_get ts i) y ≡ false
  not_word i x y at e = ap (λ o. is_word o y) at ∙ e

  -- a node that its first words open; m is the room
  pub read_on : (m : ℕ) (k : Kind) (i j : ℕ) (ps : Trees) (g : Category) (x : Option Tree) → opens_before g (slice_get ts i) ≡ Some k → weight k ≤ m → Tends (λ n. spell n ts (m - weight k) (rule (place_of g) k) i) (Some (ps, j)) → agrees k ps ≡ true → Tends (λ n. grow n ts m g (node k i j ps)) x → Tends (λ n. read n ts m g i) x
  read_on m k i j ps g x o le s a gr = tends_step (λ n. read n ts m g i) x (suc (max s.after gr.after)) step
    where
      step : (n : ℕ) → suc (max s.after gr.after) ≤ n → read (suc n) ts m g i ≡ x
      step zero l = absurd (omega arith)
      step (suc n) l = rw (o, le-leb (weight k) m le, s.by (suc n) (omega arith), a) (gr.by n (omega arith))

  pub grow_on : (m : ℕ) (k : Kind) (p : Tree) (j : ℕ) (qs : Trees) (g : Category) (x : Option Tree) → continues g (kind_of p) (slice_get ts (last p)) ≡ Some k → fits (rule (place_of g) k) (kind_of p) (slice_get ts (last p)) ≡ true → weight k + depth p ≤ m → Tends (λ n. spell n ts (m - weight k) (after_first (rule (place_of g) k)) (last p)) (Some (qs, j)) → agrees k (more p qs) ≡ true → Tends (λ n. grow n ts m g (node k (first p) j (more p qs))) x → Tends (λ n. grow n ts m g p) x
  grow_on m k p j qs g x c f le s a gr = tends_step (λ n. grow n ts m g p) x (suc (suc (max s.after gr.after))) step
    where
      yes : fits (rule (place_of g) k) (kind_of p) (slice_get ts (last p)) && nat_le (weight k + depth p) m ≡ true
      yes = both (fits (rule (place_of g) k) (kind_of p) (slice_get ts (last p))) (nat_le (weight k + depth p) m) f (le-leb (weight k + depth p) m le)

      step : (n : ℕ) → suc (suc (max s.after gr.after)) ≤ n → grow (suc n) ts m g p ≡ x
      step zero l = absurd (omega arith)
      step (suc zero) l = absurd (omega arith)
      step (suc (suc n)) l =
          ap (grow_by (suc (suc n)) ts m g p) c ∙
          ap (λ b. cond b (spell (suc n) ts (m - weight k) (after_first (rule (place_of g) k)) (last p) >>= λ y. made (suc n) ts m g (node k (first p) y.1 (more p y.0))) None) yes ∙
          ap (λ o. o >>= λ y. made (suc n) ts m g (node k (first p) y.1 (more p y.0))) (s.by (suc n) (omega arith)) ∙
          ap (λ b. cond b (grow n ts m g (node k (first p) j (more p qs))) None) a ∙
          gr.by n (omega arith)

  pub grow_ends : (m : ℕ) (p : Tree) (c : Category) → continues c (kind_of p) (slice_get ts (last p)) ≡ None → within c (kind_of p) ≡ true → ends c (kind_of p) (slice_get ts (last p)) ≡ true → Tends (λ n. grow n ts m c p) (Some p)
  grow_ends m p c e w d = tends_step (λ n. grow n ts m c p) (Some p) 1 step
    where
      step : (n : ℕ) → 1 ≤ n → grow (suc n) ts m c p ≡ Some p
      step zero le = absurd (omega arith)
      step (suc n) le = ap (grow_by (suc n) ts m c p) e ∙ ap (λ b. cond b (Some p) None) (both (within c (kind_of p)) (ends c (kind_of p) (slice_get ts (last p))) w d)

  module _ (m : ℕ) where
    pub end_reads : (ws : List TokenKind) (i j : ℕ) → Words ts i ws j → Tends (λ n. spell n ts m (End ws) i) (Some (none, j))
    end_reads ws i j w = tends_step (λ n. spell n ts m (End ws) i) (Some (none, j)) 0 (λ n le. rw (words_read ws i j w) refl)

    pub then_reads : (ws : List TokenKind) (c : Category) (r : Rule) (i k j : ℕ) (p : Tree) (ps : Trees) → Words ts i ws k → Tends (λ n. read n ts m c k) (Some p) → Tends (λ n. spell n ts m r (last p)) (Some (ps, j)) → Tends (λ n. spell n ts m (Then ws c r) i) (Some (more p ps, j))
    then_reads ws c r i k j p ps w a b = tends_step (λ n. spell n ts m (Then ws c r) i) (Some (more p ps, j)) (max a.after b.after) (λ n le. rw (words_read ws i k w, a.by n (omega arith), b.by n (omega arith)) refl)

    pub part_reads_on : (c : Category) (r : Rule) (i j : ℕ) (p : Tree) (ps : Trees) → Tends (λ n. read n ts m c i) (Some p) → Tends (λ n. spell n ts m r (last p)) (Some (ps, j)) → Tends (λ n. option n ts m c r i true) (Some (more p ps, j))
    part_reads_on c r i j p ps a b = tends_step (λ n. option n ts m c r i true) (Some (more p ps, j)) (max a.after b.after) (λ n le. rw (a.by n (omega arith), b.by n (omega arith)) refl)

    pub gap_reads_on : (c : Category) (r : Rule) (i j : ℕ) (ps : Trees) → Tends (λ n. spell n ts m r i) (Some (ps, j)) → Tends (λ n. option n ts m c r i false) (Some (skip ps, j))
    gap_reads_on c r i j ps b = tends_step (λ n. option n ts m c r i false) (Some (skip ps, j)) b.after (λ n le. rw (b.by n le) refl)

    pub maybe_reads : (ws : List TokenKind) (c : Category) (r : Rule) (i k : ℕ) (b : Bool) (x : Option (Trees × ℕ)) → Words ts i ws k → begins c (slice_get ts k) ≡ b → Tends (λ n. option n ts m c r k b) x → Tends (λ n. spell n ts m (Maybe ws c r) i) x
    maybe_reads ws c r i k b x w e a = tends_step (λ n. spell n ts m (Maybe ws c r) i) x a.after (λ n le. ap (λ o. o >>= λ k. option n ts m c r k (begins c (slice_get ts k))) (words_read ws i k w) ∙ ap (option n ts m c r k) e ∙ a.by n le)

    pub unless_reads : (ws : List TokenKind) (c : Category) (us : List TokenKind) (r : Rule) (i k : ℕ) (b : Bool) (x : Option (Trees × ℕ)) → Words ts i ws k → is_among (slice_get ts k) us ≡ b → Tends (λ n. option n ts m c r k b) x → Tends (λ n. spell n ts m (Unless ws c us r) i) x
    unless_reads ws c us r i k b x w e a = tends_step (λ n. spell n ts m (Unless ws c us r) i) x a.after (λ n le. ap (λ o. o >>= λ k. option n ts m c r k (is_among (slice_get ts k) us)) (words_read ws i k w) ∙ ap (option n ts m c r k) e ∙ a.by n le)

    pub many_reads : (ws : List TokenKind) (l : Items) (i k : ℕ) (x : Option (Trees × ℕ)) → Words ts i ws k → Tends (λ n. items n ts m l k) x → Tends (λ n. spell n ts m (Many ws l) i) x
    many_reads ws l i k x w a = tends_step (λ n. spell n ts m (Many ws l) i) x a.after (λ n le. rw (words_read ws i k w) (a.by n le))

    -- items
    items_on : (l : Items) (i : ℕ) (t : Turn) (x : Option (Trees × ℕ)) → turn l (slice_get ts i) ≡ t → Tends (λ n. items_by n ts m l i t) x → Tends (λ n. items n ts m l i) x
    items_on l i t x e a = tends_step (λ n. items n ts m l i) x a.after (λ n le. ap (items_by n ts m l i) e ∙ a.by n le)

    stop_reads : (l : Items) (i j : ℕ) → Words ts i (closing l) j → turn l (slice_get ts i) ≡ Stop → Tends (λ n. items n ts m l i) (Some (none, j))
    stop_reads l i j w e = items_on l i Stop (Some (none, j)) e (tends_step (λ n. items_by n ts m l i Stop) (Some (none, j)) 0 (λ n le. rw (words_read (closing l) i j w) refl))

    pass_reads : (l : Items) (i : ℕ) (x : Option (Trees × ℕ)) → turn l (slice_get ts i) ≡ Pass → Tends (λ n. items n ts m l (suc i)) x → Tends (λ n. items n ts m l i) x
    pass_reads l i x e a = items_on l i Pass x e (tends_step (λ n. items_by n ts m l i Pass) x a.after (λ n le. a.by n le))

    item_reads_on : (l : Items) (i j : ℕ) (p : Tree) (ps : Trees) → turn l (slice_get ts i) ≡ Item → lead l i ≡ first p → Tends (λ n. read n ts m (item l) (first p)) (Some p) → Tends (λ n. goes n ts m l (last p)) (Some (ps, j)) → Tends (λ n. items n ts m l i) (Some (more p ps, j))
    item_reads_on l i j p ps e f a b = items_on l i Item (Some (more p ps, j)) e (tends_step (λ n. items_by n ts m l i Item) (Some (more p ps, j)) (max a.after b.after) (λ n le. ap (λ k. read n ts m (item l) k >>= λ p. goes n ts m l (last p) >>= front p) f ∙ rw (a.by n (omega arith), b.by n (omega arith)) refl))

    goes_on : (l : Items) (i k : ℕ) (x : Option (Trees × ℕ)) → next ts l i ≡ On k → Tends (λ n. items n ts m l k) x → Tends (λ n. goes n ts m l i) x
    goes_on l i k x e a = tends_step (λ n. goes n ts m l i) x (suc a.after) step
      where
        step : (n : ℕ) → suc a.after ≤ n → goes (suc n) ts m l i ≡ x
        step zero le = absurd (omega arith)
        step (suc n) le = ap (goes_by (suc n) ts m l) e ∙ a.by n (omega arith)

    goes_done : (l : Items) (i j : ℕ) → next ts l i ≡ Done j → Tends (λ n. goes n ts m l i) (Some (none, j))
    goes_done l i j e = tends_step (λ n. goes n ts m l i) (Some (none, j)) 1 step
      where
        step : (n : ℕ) → 1 ≤ n → goes (suc n) ts m l i ≡ Some (none, j)
        step zero le = absurd (omega arith)
        step (suc n) le = ap (goes_by (suc n) ts m l) e

    -- separators alone are passed over
    skips : (l : Items) (s : TokenKind) → turn l (Some s) ≡ Pass → (d i k : ℕ) → i + d ≡ k → Only ts s i k → (x : Option (Trees × ℕ)) → Tends (λ n. items n ts m l k) x → Tends (λ n. items n ts m l i) x
    skips l s e zero i k eq only x a = let same : k ≡ i = omega arith in subst (λ v. Tends (λ n. items n ts m l v) x) same a
    skips l s e (suc d) i k eq only x a =
        let at : IsAt ts i s = only.each i (omega arith) (omega arith) in
        let rest : Tends (λ n. items n ts m l (suc i)) x = skips l s e d (suc i) k (omega arith) (record { order = omega arith; each = λ v lo hi. only.each v (omega arith) hi }) x a in
        pass_reads l i x (ap (turn l) at ∙ e) rest

    skips_from : (l : Items) (s : TokenKind) → turn l (Some s) ≡ Pass → (i k : ℕ) → Only ts s i k → (x : Option (Trees × ℕ)) → Tends (λ n. items n ts m l k) x → Tends (λ n. items n ts m l i) x
    skips_from l s e i k only x a = skips l s e (k - i) i k (omega (arith, only.order)) only x a

    -- what told lines say
    lines_told : (b : Bool) (c : Category) (s e : TokenKind) (f : Option TokenKind → Bool) → items_told (Lines b c s e) f ≡ true → (is_word (Some s) e ≡ false) × (is_word (Some e) s ≡ false) × (begins c (Some s) ≡ false) × (begins c (Some e) ≡ false)
    lines_told b c s e f h =
        let a = and_both (not (is_word (Some s) e) && not (is_word (Some e) s)) (not (begins c (Some s)) && not (begins c (Some e))) h in
        let u = and_both (not (is_word (Some s) e)) (not (is_word (Some e) s)) a.0 in
        let v = and_both (not (begins c (Some s))) (not (begins c (Some e))) a.1 in
        (not_true (is_word (Some s) e) u.0, not_true (is_word (Some e) s) u.1, not_true (begins c (Some s)) v.0, not_true (begins c (Some e)) v.1)

    lines_pass : (c : Category) (s e : TokenKind) → is_word (Some s) e ≡ false → turn (Lines true c s e) (Some s) ≡ Pass
    lines_pass c s e h = ap (λ b. cond b Stop (cond (is_word (Some s) s) Pass Item)) h ∙ ap (λ b. cond b Pass Item) (is_word-at (Some s) s refl)

    lines_stop : (b : Bool) (c : Category) (s e : TokenKind) (i : ℕ) → IsAt ts i e → turn (Lines b c s e) (slice_get ts i) ≡ Stop
    lines_stop b c s e i at = ap (λ v. cond v Stop (cond (b && is_word (slice_get ts i) s) Pass Item)) (is_word-at (slice_get ts i) e at)

    and_false : (b c : Bool) → c ≡ false → b && c ≡ false
    and_false true c e = e
    and_false false c e = refl

    lines_item : (b : Bool) (c : Category) (s e : TokenKind) (w : Option TokenKind) → is_word w e ≡ false → is_word w s ≡ false → turn (Lines b c s e) w ≡ Item
    lines_item b c s e w p q = ap (λ v. cond v Stop (cond (b && is_word w s) Pass Item)) p ∙ ap (λ v. cond v Pass Item) (and_false b (is_word w s) q)

    open_told : (c : Category) (s : TokenKind) (f : Option TokenKind → Bool) → items_told (Open c s) f ≡ true → (is_word (Some token.RightBrace) s ≡ false) × (begins c (Some s) ≡ false) × ((w : Option TokenKind) → f w ≡ true → (is_word w s ≡ false) × (begins c w ≡ false))
    open_told c s f h =
        let a = and_both (not (is_word (Some token.RightBrace) s) && not (begins c (Some s))) (every (λ w. implies (f w) (not (is_word w s) && not (begins c w)))) h in
        let u = and_both (not (is_word (Some token.RightBrace) s)) (not (begins c (Some s))) a.0 in
        let v : (w : Option TokenKind) → f w ≡ true → (not (is_word w s) ≡ true) × (not (begins c w) ≡ true) = λ w t. and_both (not (is_word w s)) (not (begins c w)) (implied (f w) (not (is_word w s) && not (begins c w)) (every_at (λ w. implies (f w) (not (is_word w s) && not (begins c w))) a.1 w) t) in
        (not_true (is_word (Some token.RightBrace) s) u.0, not_true (begins c (Some s)) u.1, λ w t. (not_true (is_word w s) (v w t).0, not_true (begins c w) (v w t).1))

    open_pass : (c : Category) (s : TokenKind) → turn (Open c s) (Some s) ≡ Pass
    open_pass c s = ap (λ b. cond b Pass (cond (begins c (Some s)) Item Stop)) (is_word-at (Some s) s refl)

    open_by : (c : Category) (s : TokenKind) (w : Option TokenKind) (b : Bool) → is_word w s ≡ false → begins c w ≡ b → turn (Open c s) w ≡ cond b Item Stop
    open_by c s w b p q = ap (λ v. cond v Pass (cond (begins c w) Item Stop)) p ∙ ap (λ v. cond v Item Stop) q

    each_told : (c : Category) (us vs : List TokenKind) (f : Option TokenKind → Bool) → items_told (Each c us vs) f ≡ true → (w : Option TokenKind) → heads vs f w ≡ true → begins c w ≡ false
    each_told c us vs f h w t = not_true (begins c w) (implied (heads vs f w) (not (begins c w)) (every_at (λ w. implies (heads vs f w) (not (begins c w))) h w) t)

    again_told : (c : Category) (s : TokenKind) (f : Option TokenKind → Bool) → items_told (Again c s) f ≡ true → (w : Option TokenKind) → f w ≡ true → is_word w s ≡ false
    again_told c s f h w t = not_true (is_word w s) (implied (f w) (not (is_word w s)) (every_at (λ w. implies (f w) (not (is_word w s))) h w) t)

    -- the end, where items may begin
    pub close_reads : (l : Items) (f : Option TokenKind → Bool) → items_told l f ≡ true → (i j : ℕ) → f (slice_get ts j) ≡ true → Close ts l i j → Tends (λ n. items n ts m l i) (Some (none, j))
    close_reads (Lines true c s e) f h i j t d = skips_from (Lines true c s e) s (lines_pass c s e (lines_told true c s e f h).0) i d.0 d.1 (Some (none, j)) (stop_reads (Lines true c s e) d.0 j (d.2, d.3) (lines_stop true c s e d.0 d.2))
    close_reads (Lines false c s e) f h i j t d = let at : IsAt ts i e = subst (λ k. IsAt ts k e) (sym d.1) d.2 in stop_reads (Lines false c s e) i j (at, ap suc d.1 ∙ d.3) (lines_stop false c s e i at)
    close_reads (Open c s) f h i j t d = let a = (open_told c s f h).2 (slice_get ts j) t in skips_from (Open c s) s (open_pass c s) i j d (Some (none, j)) (stop_reads (Open c s) j j refl (open_by c s (slice_get ts j) false a.0 a.1))
    close_reads (Each c us vs) f h i j t d = stop_reads (Each c us vs) i j d (ap (λ b. cond b Item Stop) (each_told c us vs f h (slice_get ts i) (heads_at ts vs f i j d t)))
    close_reads (Again c s) f h i j t d = stop_reads (Again c s) i j d (ap (λ b. cond b Item Stop) (again_told c s f h (slice_get ts i) (subst (λ k. f (slice_get ts k) ≡ true) (sym d) t)))

    -- an item, from where it may begin
    pub item_reads : (l : Items) (f : Option TokenKind → Bool) → items_told l f ≡ true → (i j : ℕ) (p : Tree) (ps : Trees) → Gap ts l i (first p) → begins (item l) (slice_get ts (first p)) ≡ true → Tends (λ n. read n ts m (item l) (first p)) (Some p) → Tends (λ n. goes n ts m l (last p)) (Some (ps, j)) → Tends (λ n. items n ts m l i) (Some (more p ps, j))
    item_reads (Lines true c s e) f h i j p ps g b r d =
        let a = lines_told true c s e f h in
        skips_from (Lines true c s e) s (lines_pass c s e a.0) i (first p) g (Some (more p ps, j)) (item_reads_on (Lines true c s e) (first p) j p ps (lines_item true c s e (slice_get ts (first p)) (apart (begins c) (slice_get ts (first p)) e b a.3) (apart (begins c) (slice_get ts (first p)) s b a.2)) refl r d)
    item_reads (Lines false c s e) f h i j p ps g b r d =
        let a = lines_told false c s e f h in
        subst (λ k. Tends (λ n. items n ts m (Lines false c s e) k) (Some (more p ps, j))) (sym g) (item_reads_on (Lines false c s e) (first p) j p ps (lines_item false c s e (slice_get ts (first p)) (apart (begins c) (slice_get ts (first p)) e b a.3) (apart (begins c) (slice_get ts (first p)) s b a.2)) refl r d)
    item_reads (Open c s) f h i j p ps g b r d =
        let a = open_told c s f h in
        skips_from (Open c s) s (open_pass c s) i (first p) g (Some (more p ps, j)) (item_reads_on (Open c s) (first p) j p ps (open_by c s (slice_get ts (first p)) true (apart (begins c) (slice_get ts (first p)) s b a.1) b) refl r d)
    item_reads (Each c us vs) f h i j p ps g b r d = subst (λ k. Tends (λ n. items n ts m (Each c us vs) k) (Some (more p ps, j))) (sym g) (item_reads_on (Each c us vs) (first p) j p ps (ap (λ v. cond v Item Stop) b) refl r d)
    item_reads (Again c s) f h i j p ps g b r d = item_reads_on (Again c s) i j p ps (ap (λ v. cond v Item Stop) (is_word-at (slice_get ts i) s g.0)) g.1 r d

    -- from behind an item up to where items may begin
    pub between_reads : (l : Items) (i k : ℕ) (x : Option (Trees × ℕ)) → Between ts l i k → Tends (λ n. items n ts m l k) x → Tends (λ n. goes n ts m l i) x
    between_reads (Lines b c s e) i k x h a = goes_on (Lines b c s e) i k x (ap (λ v. cond v (On (suc i)) (cond (is_word (slice_get ts i) e) (Done (suc i)) Wrong)) (is_word-at (slice_get ts i) s h.0) ∙ ap On h.1) a
    between_reads (Open c s) i k x h a = goes_on (Open c s) i k x (ap (λ v. cond v (On (suc i)) (cond (is_word (slice_get ts i) token.RightBrace) (Done i) Wrong)) (is_word-at (slice_get ts i) s h.0) ∙ ap On h.1) a
    between_reads (Each c us vs) i k x h a = goes_on (Each c us vs) i k x (ap on (words_read us i k h)) a
    between_reads (Again c s) i k x h a = goes_on (Again c s) i k x (ap On h) a

    -- the end behind an item
    pub early_reads : (l : Items) (f : Option TokenKind → Bool) → items_told l f ≡ true → (i j : ℕ) → Early ts l i j → Tends (λ n. goes n ts m l i) (Some (none, j))
    early_reads (Lines b c s e) f h i j d = goes_done (Lines b c s e) i j (ap (λ v. cond v (On (suc i)) (cond (is_word (slice_get ts i) e) (Done (suc i)) Wrong)) (not_word i e s d.0 (lines_told b c s e f h).1) ∙ ap (λ v. cond v (Done (suc i)) Wrong) (is_word-at (slice_get ts i) e d.0) ∙ ap Done d.1)
    early_reads (Open c s) f h i j d = goes_done (Open c s) i j (ap (λ v. cond v (On (suc i)) (cond (is_word (slice_get ts i) token.RightBrace) (Done i) Wrong)) (not_word i token.RightBrace s d.0 (open_told c s f h).0) ∙ ap (λ v. cond v (Done i) Wrong) (is_word-at (slice_get ts i) token.RightBrace d.0) ∙ ap Done d.1)
    early_reads (Each c us vs) f h i j d = absurd d
    early_reads (Again c s) f h i j d = absurd d
