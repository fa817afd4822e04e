-- What a text begins with, and what stands behind an item.
use Rattle.std.proofs.Common.{◌≡◌, ℕ, suc, ◌<◌, ◌≤◌, ◌⊎◌, inl, inr, ⊎_elim, Bool, true, false, List, [], ◌∷◌, Option, Some, None, refl, sym, ap, ◌∙◌, subst, arith}
use Rattle.std.specs.Prelude.{slice_get, ◌||◌}
use Rattle.go_tokens.specs.declared.token.TokenKind.{TokenKind}
use Rattle.go_tokens.specs.declared.token.TokenKind.TheVariants as token
use Rattle.go_grammar.specs.declared.kind.Kind.{Kind}
use Rattle.go_grammar.specs.declared.kind.Category.{Category}
use Rattle.go_grammar.specs.Categories.{within, place_of}
use Rattle.go_grammar.specs.Rules.{Items, Lines, Open, Each, Again, Rule, End, Then, Maybe, Unless, Many, item}
use Rattle.go_grammar.specs.Trees.{Tree, node, Trees, none, more, skip, kind_of, first, last}
use Rattle.go_grammar.specs.Grammar.{rule, IsAt, Words, Only, Gap, Close, Between, Early, Derives, Spells, Goes}
use Rattle.go_grammar.specs.Reader.{begins, after_first}
use Rattle.go_grammar.specs.Words.{is_word}
use Rattle.go_grammar.proofs.Words.{is_word-at}
use Rattle.go_grammar.proofs.Check.{heads, item_starts, item_follows, starts, first_part, first_word, begin_checked}
use Rattle.go_grammar.proofs.Facts.{or_left, or_right, begin_fact, begin_part, first_part-is}

split : (i k : ℕ) → i ≤ k → (i ≡ k) ⊎ (i < k)
split i k le = grind arith

module _ (ts : List TokenKind) where
  pub derives_within : (c : Category) (t : Tree) → Derives ts c t → within c (kind_of t) ≡ true
  derives_within c (node k i j ps) h = h.0

  -- the place moves to one that is the same
  move : (f : Option TokenKind → Bool) (i k : ℕ) → i ≡ k → f (slice_get ts k) ≡ true → f (slice_get ts i) ≡ true
  move f i k e h = subst (λ n. f (slice_get ts n) ≡ true) (sym e) h

  pub heads_at : (ws : List TokenKind) (f : Option TokenKind → Bool) (i k : ℕ) → Words ts i ws k → f (slice_get ts k) ≡ true → heads ws f (slice_get ts i) ≡ true
  heads_at [] f i k h e = move f i k h e
  heads_at (x ∷ ws) f i k h e = is_word-at (slice_get ts i) x h.0

  -- s stands at i, or i is k
  only_at : (s : TokenKind) (f : Option TokenKind → Bool) (i k : ℕ) → Only ts s i k → f (slice_get ts k) ≡ true → is_word (slice_get ts i) s || f (slice_get ts i) ≡ true
  only_at s f i k h e = ⊎_elim
      (λ same. or_right (is_word (slice_get ts i) s) (f (slice_get ts i)) (move f i k same e))
      (λ lt. or_left (is_word (slice_get ts i) s) (f (slice_get ts i)) (is_word-at (slice_get ts i) s (h.each i (omega arith) lt)))
      (split i k h.order)

  close_at : (l : Items) (f : Option TokenKind → Bool) (i j : ℕ) → Close ts l i j → f (slice_get ts j) ≡ true → item_starts l f (slice_get ts i) ≡ true
  close_at (Lines true c s e) f i j h t = or_right (begins c (slice_get ts i)) (is_word (slice_get ts i) s || is_word (slice_get ts i) e) (only_at s (λ w. is_word w e) i h.0 h.1 (is_word-at (slice_get ts h.0) e h.2))
  close_at (Lines false c s e) f i j h t = or_right (begins c (slice_get ts i)) (is_word (slice_get ts i) s || is_word (slice_get ts i) e) (or_right (is_word (slice_get ts i) s) (is_word (slice_get ts i) e) (move (λ w. is_word w e) i h.0 h.1 (is_word-at (slice_get ts h.0) e h.2)))
  close_at (Open c s) f i j h t = or_right (begins c (slice_get ts i)) (is_word (slice_get ts i) s || f (slice_get ts i)) (only_at s f i j h t)
  close_at (Each c us vs) f i j h t = or_right (begins c (slice_get ts i)) (heads vs f (slice_get ts i)) (heads_at vs f i j h t)
  close_at (Again c s) f i j h t = or_right (is_word (slice_get ts i) s) (f (slice_get ts i)) (move f i j h t)

  -- s stands at i, or a text of c begins there
  only_begins : (c : Category) (s : TokenKind) (b : Bool) (i k : ℕ) → Only ts s i k → begins c (slice_get ts k) ≡ true → begins c (slice_get ts i) || (is_word (slice_get ts i) s || b) ≡ true
  only_begins c s b i k h e = ⊎_elim
      (λ same. or_left (begins c (slice_get ts i)) (is_word (slice_get ts i) s || b) (move (begins c) i k same e))
      (λ lt. or_right (begins c (slice_get ts i)) (is_word (slice_get ts i) s || b) (or_left (is_word (slice_get ts i) s) b (is_word-at (slice_get ts i) s (h.each i (omega arith) lt))))
      (split i k h.order)

  gap_at : (l : Items) (f : Option TokenKind → Bool) (i k : ℕ) → Gap ts l i k → begins (item l) (slice_get ts k) ≡ true → item_starts l f (slice_get ts i) ≡ true
  gap_at (Lines true c s e) f i k h b = only_begins c s (is_word (slice_get ts i) e) i k h b
  gap_at (Lines false c s e) f i k h b = or_left (begins c (slice_get ts i)) (is_word (slice_get ts i) s || is_word (slice_get ts i) e) (move (begins c) i k h b)
  gap_at (Open c s) f i k h b = only_begins c s (f (slice_get ts i)) i k h b
  gap_at (Each c us vs) f i k h b = or_left (begins c (slice_get ts i)) (heads vs f (slice_get ts i)) (move (begins c) i k h b)
  gap_at (Again c s) f i k h b = or_left (is_word (slice_get ts i) s) (f (slice_get ts i)) (is_word-at (slice_get ts i) s h.0)

  early_at : (l : Items) (f : Option TokenKind → Bool) (i j : ℕ) → Early ts l i j → item_follows l f (slice_get ts i) ≡ true
  early_at (Lines b c s e) f i j h = or_right (is_word (slice_get ts i) s) (is_word (slice_get ts i) e) (is_word-at (slice_get ts i) e h.0)
  early_at (Open c s) f i j h = or_right (is_word (slice_get ts i) s) (is_word (slice_get ts i) token.RightBrace) (is_word-at (slice_get ts i) token.RightBrace h.0)
  early_at (Each c us vs) f i j h = absurd h
  early_at (Again c s) f i j h = absurd h

  -- what stands between items, and then what an item or the end begins with
  between_at : (l : Items) (f : Option TokenKind → Bool) (i k : ℕ) → Between ts l i k → item_starts l f (slice_get ts k) ≡ true → item_follows l f (slice_get ts i) ≡ true
  between_at (Lines b c s e) f i k h t = or_left (is_word (slice_get ts i) s) (is_word (slice_get ts i) e) (is_word-at (slice_get ts i) s h.0)
  between_at (Open c s) f i k h t = or_left (is_word (slice_get ts i) s) (is_word (slice_get ts i) token.RightBrace) (is_word-at (slice_get ts i) s h.0)
  between_at (Each c us vs) f i k h t = heads_at us (λ v. begins c v || heads vs f v) i k h t
  between_at (Again c s) f i k h t = move (λ w. is_word w s || f w) i k h t

  -- the first word of a text
  pub first_word_at : (ps : Trees) (r : Rule) (i j : ℕ) (x : TokenKind) → Spells ts r i ps j → first_word r ≡ Some x → IsAt ts i x
  first_word_at ps (End []) i j x h e = cc
  first_word_at none (End (y ∷ ws)) i j x h e = h.0 ∙ e
  first_word_at (more p ps) (End (y ∷ ws)) i j x h e = absurd h
  first_word_at (skip ps) (End (y ∷ ws)) i j x h e = absurd h
  first_word_at ps (Then [] c r) i j x h e = cc
  first_word_at none (Then (y ∷ ws) c r) i j x h e = absurd h
  first_word_at (more p ps) (Then (y ∷ ws) c r) i j x h e = h.0.0 ∙ e
  first_word_at (skip ps) (Then (y ∷ ws) c r) i j x h e = absurd h
  first_word_at ps (Maybe [] c r) i j x h e = cc
  first_word_at none (Maybe (y ∷ ws) c r) i j x h e = absurd h
  first_word_at (more p ps) (Maybe (y ∷ ws) c r) i j x h e = h.0.0 ∙ e
  first_word_at (skip ps) (Maybe (y ∷ ws) c r) i j x h e = h.1.0 ∙ e
  first_word_at ps (Unless [] c us r) i j x h e = cc
  first_word_at none (Unless (y ∷ ws) c us r) i j x h e = absurd h
  first_word_at (more p ps) (Unless (y ∷ ws) c us r) i j x h e = h.0.0 ∙ e
  first_word_at (skip ps) (Unless (y ∷ ws) c us r) i j x h e = h.1.0 ∙ e
  first_word_at ps (Many [] l) i j x h e = cc
  first_word_at none (Many (y ∷ ws) l) i j x h e = h.1.0 ∙ e
  first_word_at (more p ps) (Many (y ∷ ws) l) i j x h e = h.1.0 ∙ e
  first_word_at (skip ps) (Many (y ∷ ws) l) i j x h e = absurd h

  begins_word : (ps : Trees) (c : Category) (r : Rule) (i j : ℕ) (o : Option TokenKind) → first_word r ≡ o → Spells ts r i ps j → begins c o ≡ true → begins c (slice_get ts i) ≡ true
  begins_word ps c r i j None e h b = cc
  begins_word ps c r i j (Some x) e h b = subst (λ w. begins c w ≡ true) (sym (first_word_at ps r i j x h e)) b

  mutual
    -- a text of a category begins with one of its tokens
    pub begins_at : (t : Tree) (c : Category) → Derives ts c t → begins c (slice_get ts (first t)) ≡ true
    begins_at (node k i j ps) c h = begins_by ps c k i j (first_part (rule (place_of c) k)) refl h.1 (begin_fact c k h.0)

    begins_by : (ps : Trees) (c : Category) (k : Kind) (i j : ℕ) (o : Option Category) → first_part (rule (place_of c) k) ≡ o → Spells ts (rule (place_of c) k) i ps j → begin_checked c k (rule (place_of c) k) o ≡ true → begins c (slice_get ts i) ≡ true
    begins_by ps c k i j None e h b = begins_word ps c (rule (place_of c) k) i j (first_word (rule (place_of c) k)) refl h b
    begins_by none c k i j (Some d) e h b = let s : Spells ts (Then [] d (after_first (rule (place_of c) k))) i none j = subst (λ r. Spells ts r i none j) (first_part-is (rule (place_of c) k) d e) h in absurd s
    begins_by (more p ps) c k i j (Some d) e h b =
        let s : Spells ts (Then [] d (after_first (rule (place_of c) k))) i (more p ps) j = subst (λ r. Spells ts r i (more p ps) j) (first_part-is (rule (place_of c) k) d e) h in
        move (begins c) i (first p) s.0 (begin_part c d (slice_get ts (first p)) b (begins_at p d s.1))
    begins_by (skip ps) c k i j (Some d) e h b = let s : Spells ts (Then [] d (after_first (rule (place_of c) k))) i (skip ps) j = subst (λ r. Spells ts r i (skip ps) j) (first_part-is (rule (place_of c) k) d e) h in absurd s

  -- what a right side begins with, before what f allows
  pub goes_at : (ps : Trees) (l : Items) (f : Option TokenKind → Bool) (i j : ℕ) → Goes ts l i ps j → f (slice_get ts j) ≡ true → item_follows l f (slice_get ts i) ≡ true
  goes_at none l f i j (inl h) t = early_at l f i j h
  goes_at none l f i j (inr h) t = between_at l f i h.0 h.1 (close_at l f h.0 j h.2 t)
  goes_at (more p ps) l f i j h t = between_at l f i h.0 h.1 (gap_at l f h.0 (first p) h.2 (begins_at p (item l) h.3))
  goes_at (skip ps) l f i j h t = absurd h

  pub starts_at : (ps : Trees) (r : Rule) (f : Option TokenKind → Bool) (i j : ℕ) → Spells ts r i ps j → f (slice_get ts j) ≡ true → starts r f (slice_get ts i) ≡ true
  starts_at none (End ws) f i j h t = heads_at ws f i j h t
  starts_at (more p ps) (End ws) f i j h t = absurd h
  starts_at (skip ps) (End ws) f i j h t = absurd h
  starts_at none (Then ws c r) f i j h t = absurd h
  starts_at (more p ps) (Then ws c r) f i j h t = heads_at ws (begins c) i (first p) h.0 (begins_at p c h.1)
  starts_at (skip ps) (Then ws c r) f i j h t = absurd h
  starts_at none (Maybe ws c r) f i j h t = absurd h
  starts_at (more p ps) (Maybe ws c r) f i j h t = heads_at ws (λ v. begins c v || starts r f v) i (first p) h.0 (or_left (begins c (slice_get ts (first p))) (starts r f (slice_get ts (first p))) (begins_at p c h.1))
  starts_at (skip ps) (Maybe ws c r) f i j h t = heads_at ws (λ v. begins c v || starts r f v) i h.0 h.1 (or_right (begins c (slice_get ts h.0)) (starts r f (slice_get ts h.0)) (starts_at ps r f h.0 j h.2 t))
  starts_at none (Unless ws c us r) f i j h t = absurd h
  starts_at (more p ps) (Unless ws c us r) f i j h t = heads_at ws (λ v. begins c v || starts r f v) i (first p) h.0 (or_left (begins c (slice_get ts (first p))) (starts r f (slice_get ts (first p))) (begins_at p c h.1))
  starts_at (skip ps) (Unless ws c us r) f i j h t = heads_at ws (λ v. begins c v || starts r f v) i h.0 h.1 (or_right (begins c (slice_get ts h.0)) (starts r f (slice_get ts h.0)) (starts_at ps r f h.0 j h.3 t))
  starts_at none (Many ws l) f i j h t = heads_at ws (item_starts l f) i h.0 h.1 (close_at l f h.0 j h.2 t)
  starts_at (more p ps) (Many ws l) f i j h t = heads_at ws (item_starts l f) i h.0 h.1 (gap_at l f h.0 (first p) h.2 (begins_at p (item l) h.3))
  starts_at (skip ps) (Many ws l) f i j h t = absurd h
