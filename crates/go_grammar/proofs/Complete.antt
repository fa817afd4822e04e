-- The reader finds every tree that has room.
use Rattle.std.proofs.Common.{◌≡◌, ℕ, zero, suc, ◌+◌, ◌-◌, ◌<◌, ◌≤◌, ◌⊎◌, inl, inr, max, Bool, true, false, List, [], ◌∷◌, Option, Some, None, refl, sym, ap, ◌∙◌, subst, arith}
use Rattle.std.specs.Prelude.{slice_get, ◌&&◌}
use Rattle.go_tokens.specs.declared.token.TokenKind.{TokenKind}
use Rattle.go_grammar.specs.declared.kind.Kind.{Kind}
use Rattle.go_grammar.specs.declared.kind.Category.{Category}
use Rattle.go_grammar.specs.Categories.{within, place_of}
use Rattle.go_grammar.specs.Rules.{Items, Rule, End, Then, Maybe, Unless, Many, item}
use Rattle.go_grammar.specs.Trees.{Tree, node, Trees, none, more, skip, kind_of, first, last, weight, depth, depths}
use Rattle.go_grammar.specs.Grammar.{rule, agrees, ends, Words, Derives, Spells, Goes}
use Rattle.go_grammar.specs.Reader.{opens_before, begins, fits, after_first, read, grow, spell, goes, Tends}
use Rattle.go_grammar.specs.Words.{is_among}
use Rattle.go_grammar.proofs.Rows.{and_both, every, every_at}
use Rattle.go_grammar.proofs.Check.{implies, not, follows, passes, spine, starts, item_follows, items_told, told, first_part, first_word, kind_checked}
use Rattle.go_grammar.proofs.Facts.{implied, not_true, both, spine_self, place_fact, kind_fact, Continuing, continuing, Opening, opening, finish_fact, follows_pass, first_part-is}
use Rattle.go_grammar.proofs.Starts.{derives_within, first_word_at, begins_at, goes_at, starts_at}
use Rattle.go_grammar.proofs.Steps.{read_on, grow_on, grow_ends, end_reads, then_reads, part_reads_on, gap_reads_on, maybe_reads, unless_reads, many_reads, close_reads, item_reads, between_reads, early_reads}

abbrev follows_of : Rule → Category → (Option TokenKind → Bool) → Option TokenKind → Bool
follows_of r c f w = implies (starts r f w) (follows c w)

abbrev maybe_of : Rule → Category → (Option TokenKind → Bool) → Option TokenKind → Bool
maybe_of r c f w = implies (starts r f w) (follows c w && not (begins c w))

abbrev unless_of : Rule → Category → List TokenKind → (Option TokenKind → Bool) → Option TokenKind → Bool
unless_of r c us f w = implies (starts r f w) (follows c w) && implies (begins c w) (is_among w us)

abbrev items_of : Items → (Option TokenKind → Bool) → Option TokenKind → Bool
items_of l f w = implies (item_follows l f w) (follows (item l) w)

module _ (ts : List TokenKind) where
  derives_spells : (c : Category) (k : Kind) (i j : ℕ) (ps : Trees) → Derives ts c (node k i j ps) → Spells ts (rule (place_of c) k) i ps j
  derives_spells c k i j ps h = h.1

  derives_ends : (c : Category) (t : Tree) → Derives ts c t → ends c (kind_of t) (slice_get ts (last t)) ≡ true
  derives_ends c (node k i j ps) h = h.3

  -- what the reader does with one tree of category c
  abbrev Whole : Tree → Category → Type 0
  Whole t c = (g : Category) → spine g c ≡ true → passes g c (slice_get ts (last t)) ≡ true → (m : ℕ) → depth t ≤ m → (x : Option Tree) → Tends (λ n. grow n ts m g t) x → Tends (λ n. read n ts m g (first t)) x

  -- a part is read, if the reader goes on to it and no further
  part_reads : (c : Category) (p : Tree) → Derives ts c p → follows c (slice_get ts (last p)) ≡ true → Whole p c → (m : ℕ) → depth p ≤ m → Tends (λ n. read n ts m c (first p)) (Some p)
  part_reads c p d f whole m le =
      let w = derives_within ts c p d in
      let e = derives_ends c p d in
      whole c (spine_self c) (follows_pass c (slice_get ts (last p)) f) m le (Some p) (grow_ends ts m p c (finish_fact c (kind_of p) (slice_get ts (last p)) w f e) w e)

  -- what told right sides say of the part's end
  then_ends : (c : Category) (r : Rule) (f : Option TokenKind → Bool) (ps : Trees) (i j : ℕ) → every (follows_of r c f) ≡ true → Spells ts r i ps j → f (slice_get ts j) ≡ true → follows c (slice_get ts i) ≡ true
  then_ends c r f ps i j h s t = implied (starts r f (slice_get ts i)) (follows c (slice_get ts i)) (every_at (follows_of r c f) h (slice_get ts i)) (starts_at ts ps r f i j s t)

  maybe_ends : (c : Category) (r : Rule) (f : Option TokenKind → Bool) (ps : Trees) (i j : ℕ) → every (maybe_of r c f) ≡ true → Spells ts r i ps j → f (slice_get ts j) ≡ true → (follows c (slice_get ts i) ≡ true) × (begins c (slice_get ts i) ≡ false)
  maybe_ends c r f ps i j h s t =
      let a = and_both (follows c (slice_get ts i)) (not (begins c (slice_get ts i))) (implied (starts r f (slice_get ts i)) (follows c (slice_get ts i) && not (begins c (slice_get ts i))) (every_at (maybe_of r c f) h (slice_get ts i)) (starts_at ts ps r f i j s t)) in
      (a.0, not_true (begins c (slice_get ts i)) a.1)

  unless_at : (c : Category) (us : List TokenKind) (r : Rule) (f : Option TokenKind → Bool) (w : Option TokenKind) → every (unless_of r c us f) ≡ true → (implies (starts r f w) (follows c w) ≡ true) × (implies (begins c w) (is_among w us) ≡ true)
  unless_at c us r f w h = and_both (implies (starts r f w) (follows c w)) (implies (begins c w) (is_among w us)) (every_at (unless_of r c us f) h w)

  item_ends : (l : Items) (f : Option TokenKind → Bool) (ps : Trees) (i j : ℕ) → every (items_of l f) ≡ true → Goes ts l i ps j → f (slice_get ts j) ≡ true → follows (item l) (slice_get ts i) ≡ true
  item_ends l f ps i j h s t = implied (item_follows l f (slice_get ts i)) (follows (item l) (slice_get ts i)) (every_at (items_of l f) h (slice_get ts i)) (goes_at ts ps l f i j s t)

  -- what the reader does with a row of parts
  abbrev Spelling : Trees → Type 0
  Spelling ps = (r : Rule) (i j m : ℕ) → depths ps ≤ m → Spells ts r i ps j → (f : Option TokenKind → Bool) → told r f ≡ true → f (slice_get ts j) ≡ true → Tends (λ n. spell n ts m r i) (Some (ps, j))

  mutual
    -- what the reader makes of a node, it makes of the node's tokens
    pub whole : (t : Tree) (c : Category) → Derives ts c t → Whole t c
    whole (node k i j ps) c h g s f m le x e = wholly ps c k i j (first_part (rule (place_of c) k)) refl h (spelled ps) g s f m le x e (kind_fact g c k s h.0)

    wholly : (ps : Trees) (c : Category) (k : Kind) (i j : ℕ) (o : Option Category) → first_part (rule (place_of c) k) ≡ o → Derives ts c (node k i j ps) → Spelling ps → (g : Category) → spine g c ≡ true → passes g c (slice_get ts j) ≡ true → (m : ℕ) → weight k + depths ps ≤ m → (x : Option Tree) → Tends (λ n. grow n ts m g (node k i j ps)) x → kind_checked g c k (rule (place_of c) k) o ≡ true → Tends (λ n. read n ts m g i) x
    wholly ps c k i j None o h all g s f m le x e q =
        let b : Opening g c k (rule (place_of c) k) = opening g c k (rule (place_of c) k) (first_word (rule (place_of c) k)) refl q in
        let at = first_word_at ts ps (rule (place_of c) k) i j b.word h.1 b.begins_with in
        let sp = all (rule (place_of c) k) i j (m - weight k) (omega arith) h.1 (passes g c) b.reads f in
        read_on ts m k i j ps g x (ap (opens_before g) at ∙ b.opens_it) (omega arith) (subst (λ p. Tends (λ n. spell n ts (m - weight k) (rule p k) i) (Some (ps, j))) (sym (place_fact g c s)) sp) h.2 e
    wholly none c k i j (Some d) o h all g s f m le x e q = let sp : Spells ts (Then [] d (after_first (rule (place_of c) k))) i none j = subst (λ r. Spells ts r i none j) (first_part-is (rule (place_of c) k) d o) (derives_spells c k i j none h) in absurd sp
    wholly (skip qs) c k i j (Some d) o h all g s f m le x e q = let sp : Spells ts (Then [] d (after_first (rule (place_of c) k))) i (skip qs) j = subst (λ r. Spells ts r i (skip qs) j) (first_part-is (rule (place_of c) k) d o) (derives_spells c k i j (skip qs) h) in absurd sp
    wholly (more p qs) c k i j (Some d) o h all g s f m le x e q =
        let is : rule (place_of c) k ≡ Then [] d (after_first (rule (place_of c) k)) = first_part-is (rule (place_of c) k) d o in
        let sp : Spells ts (Then [] d (after_first (rule (place_of c) k))) i (more p qs) j = subst (λ r. Spells ts r i (more p qs) j) is (derives_spells c k i j (more p qs) h) in
        let b : Continuing g c k (after_first (rule (place_of c) k)) d = continuing g c k (after_first (rule (place_of c) k)) d q in
        let st : starts (after_first (rule (place_of c) k)) (passes g c) (slice_get ts (last p)) ≡ true = starts_at ts qs (after_first (rule (place_of c) k)) (passes g c) (last p) j sp.2 f in
        let w : within d (kind_of p) ≡ true = derives_within ts d p sp.1 in
        let en : ends d (kind_of p) (slice_get ts (last p)) ≡ true = derives_ends d p sp.1 in
        let same : place_of g ≡ place_of c = place_fact g c s in
        let fit : fits (rule (place_of c) k) (kind_of p) (slice_get ts (last p)) ≡ true = ap (λ r. fits r (kind_of p) (slice_get ts (last p))) is ∙ both (within d (kind_of p)) (ends d (kind_of p) (slice_get ts (last p))) w en in
        let fit' : fits (rule (place_of g) k) (kind_of p) (slice_get ts (last p)) ≡ true = subst (λ z. fits (rule z k) (kind_of p) (slice_get ts (last p)) ≡ true) (sym same) fit in
        let rest : Tends (λ n. spell n ts (m - weight k) (after_first (rule (place_of c) k)) (last p)) (Some (qs, j)) = spelled qs (after_first (rule (place_of c) k)) (last p) j (m - weight k) (omega arith) sp.2 (passes g c) b.reads f in
        let rest' : Tends (λ n. spell n ts (m - weight k) (after_first (rule (place_of g) k)) (last p)) (Some (qs, j)) = subst (λ z. Tends (λ n. spell n ts (m - weight k) (after_first (rule z k)) (last p)) (Some (qs, j))) (sym same) rest in
        let e' : Tends (λ n. grow n ts m g (node k (first p) j (more p qs))) x = subst (λ v. Tends (λ n. grow n ts m g (node k v j (more p qs))) x) sp.0 e in
        let up : Tends (λ n. grow n ts m g p) x = grow_on ts m k p j qs g x (b.next (slice_get ts (last p)) (kind_of p) st w en) fit' (omega arith) rest' h.2 e' in
        subst (λ v. Tends (λ n. read n ts m g v) x) (sym sp.0) (whole p d sp.1 g b.goes_up (b.passed (slice_get ts (last p)) st) m (omega arith) x up)

    spelled : (ps : Trees) → Spelling ps
    spelled none (End ws) i j m le h f t e = end_reads ts m ws i j h
    spelled (more p ps) (End ws) i j m le h f t e = absurd h
    spelled (skip ps) (End ws) i j m le h f t e = absurd h
    spelled none (Then ws c r) i j m le h f t e = absurd h
    spelled (more p ps) (Then ws c r) i j m le h f t e =
        let a = and_both (every (follows_of r c f)) (told r f) t in
        then_reads ts m ws c r i (first p) j p ps h.0 (part_reads c p h.1 (then_ends c r f ps (last p) j a.0 h.2 e) (whole p c h.1) m (omega arith)) (spelled ps r (last p) j m (omega arith) h.2 f a.1 e)
    spelled (skip ps) (Then ws c r) i j m le h f t e = absurd h
    spelled none (Maybe ws c r) i j m le h f t e = absurd h
    spelled (more p ps) (Maybe ws c r) i j m le h f t e =
        let a = and_both (every (maybe_of r c f)) (told r f) t in
        maybe_reads ts m ws c r i (first p) true (Some (more p ps, j)) h.0 (begins_at ts p c h.1) (part_reads_on ts m c r (first p) j p ps (part_reads c p h.1 (maybe_ends c r f ps (last p) j a.0 h.2 e).0 (whole p c h.1) m (omega arith)) (spelled ps r (last p) j m (omega arith) h.2 f a.1 e))
    spelled (skip ps) (Maybe ws c r) i j m le h f t e =
        let a = and_both (every (maybe_of r c f)) (told r f) t in
        maybe_reads ts m ws c r i h.0 false (Some (skip ps, j)) h.1 (maybe_ends c r f ps h.0 j a.0 h.2 e).1 (gap_reads_on ts m c r h.0 j ps (spelled ps r h.0 j m le h.2 f a.1 e))
    spelled none (Unless ws c us r) i j m le h f t e = absurd h
    spelled (more p ps) (Unless ws c us r) i j m le h f t e =
        let a = and_both (every (unless_of r c us f)) (told r f) t in
        let u = unless_at c us r f (slice_get ts (first p)) a.0 in
        let v = unless_at c us r f (slice_get ts (last p)) a.0 in
        let fo : follows c (slice_get ts (last p)) ≡ true = implied (starts r f (slice_get ts (last p))) (follows c (slice_get ts (last p))) v.0 (starts_at ts ps r f (last p) j h.2 e) in
        unless_reads ts m ws c us r i (first p) true (Some (more p ps, j)) h.0 (implied (begins c (slice_get ts (first p))) (is_among (slice_get ts (first p)) us) u.1 (begins_at ts p c h.1)) (part_reads_on ts m c r (first p) j p ps (part_reads c p h.1 fo (whole p c h.1) m (omega arith)) (spelled ps r (last p) j m (omega arith) h.2 f a.1 e))
    spelled (skip ps) (Unless ws c us r) i j m le h f t e =
        let a = and_both (every (unless_of r c us f)) (told r f) t in
        unless_reads ts m ws c us r i h.0 false (Some (skip ps, j)) h.1 h.2 (gap_reads_on ts m c r h.0 j ps (spelled ps r h.0 j m le h.3 f a.1 e))
    spelled none (Many ws l) i j m le h f t e =
        let a = and_both (every (items_of l f)) (items_told l f) t in
        many_reads ts m ws l i h.0 (Some (none, j)) h.1 (close_reads ts m l f a.1 h.0 j e h.2)
    spelled (more p ps) (Many ws l) i j m le h f t e =
        let a = and_both (every (items_of l f)) (items_told l f) t in
        many_reads ts m ws l i h.0 (Some (more p ps, j)) h.1 (item_reads ts m l f a.1 h.0 j p ps h.2 (begins_at ts p (item l) h.3) (part_reads (item l) p h.3 (item_ends l f ps (last p) j a.0 h.4 e) (whole p (item l) h.3) m (omega arith)) (goes_reads ps l (last p) j m (omega arith) h.4 f a.0 a.1 e))
    spelled (skip ps) (Many ws l) i j m le h f t e = absurd h

    goes_reads : (ps : Trees) (l : Items) (i j m : ℕ) → depths ps ≤ m → Goes ts l i ps j → (f : Option TokenKind → Bool) → every (items_of l f) ≡ true → items_told l f ≡ true → f (slice_get ts j) ≡ true → Tends (λ n. goes n ts m l i) (Some (ps, j))
    goes_reads none l i j m le (inl h) f a t e = early_reads ts m l f t i j h
    goes_reads none l i j m le (inr h) f a t e = between_reads ts m l i h.0 (Some (none, j)) h.1 (close_reads ts m l f t h.0 j e h.2)
    goes_reads (more p ps) l i j m le h f a t e = between_reads ts m l i h.0 (Some (more p ps, j)) h.1 (item_reads ts m l f t h.0 j p ps h.2 (begins_at ts p (item l) h.3) (part_reads (item l) p h.3 (item_ends l f ps (last p) j a h.4 e) (whole p (item l) h.3) m (omega arith)) (goes_reads ps l (last p) j m (omega arith) h.4 f a t e))
    goes_reads (skip ps) l i j m le h f a t e = absurd h

  -- each tree of a category, before a token that may follow the category, is what the reader finds
  pub complete : (c : Category) (t : Tree) → Derives ts c t → follows c (slice_get ts (last t)) ≡ true → (m : ℕ) → depth t ≤ m → Tends (λ n. read n ts m c (first t)) (Some t)
  complete c t d f m le = part_reads c t d f (whole t c d) m le
