-- A derivation has a token at least, and lies within the tokens.
use Rattle.std.proofs.Common.{◌≡◌, ℕ, zero, suc, ◌<◌, ◌≤◌, ◌⊎◌, inl, inr, Bool, true, false, List, [], ◌∷◌, Option, Some, None, refl, sym, ap, ◌∙◌, subst, length, arith}
use Rattle.std.proofs.lemmas.Option.{slice_get_within}
use Rattle.std.specs.Prelude.{slice_get}
use Rattle.go_tokens.specs.declared.token.TokenKind.{TokenKind}
use Rattle.go_tokens.specs.declared.token.TokenKind.TheVariants as token
use Rattle.go_grammar.specs.declared.kind.Kind.{Kind}
use Rattle.go_grammar.specs.declared.kind.Category.{Category}
use Rattle.go_grammar.specs.Categories.{within, place_of}
use Rattle.go_grammar.specs.Rules.{Items, Lines, Open, Each, Again, Rule, End, Then, Maybe, Unless, Many, item}
use Rattle.go_grammar.specs.Trees.{Tree, node, Trees, none, more, skip, kind_of, first, last}
use Rattle.go_grammar.specs.Grammar.{rule, IsAt, Words, Only, Gap, Close, Between, Early, Derives, Spells, Goes}
use Rattle.go_grammar.specs.Reader.{begins, after_first}
use Rattle.go_grammar.proofs.Check.{first_part, first_word, begin_checked}
use Rattle.go_grammar.proofs.Facts.{begin_fact, first_part-is}
use Rattle.go_grammar.proofs.Starts.{first_word_at, begins_at}

module _ (ts : List TokenKind) where
  pub words_order : (ws : List TokenKind) (i j : ℕ) → Words ts i ws j → i ≤ j
  words_order [] i j h = omega arith
  words_order (w ∷ ws) i j h = omega (arith, words_order ws (suc i) j h.1)

  pub gap_order : (l : Items) (i k : ℕ) → Gap ts l i k → i ≤ k
  gap_order (Lines true c s e) i k h = h.order
  gap_order (Lines false c s e) i k h = omega (arith, h)
  gap_order (Open c s) i k h = h.order
  gap_order (Each c us vs) i k h = omega (arith, h)
  gap_order (Again c s) i k h = omega (arith, h.1)

  pub close_order : (l : Items) (i j : ℕ) → Close ts l i j → i ≤ j
  close_order (Lines b c s e) i j h = omega (arith, gap_order (Lines b c s e) i h.0 h.1, h.3)
  close_order (Open c s) i j h = h.order
  close_order (Each c us vs) i j h = words_order vs i j h
  close_order (Again c s) i j h = omega (arith, h)

  pub between_order : (l : Items) (i k : ℕ) → Between ts l i k → i ≤ k
  between_order (Lines b c s e) i k h = omega (arith, h.1)
  between_order (Open c s) i k h = omega (arith, h.1)
  between_order (Each c us vs) i k h = words_order us i k h
  between_order (Again c s) i k h = omega (arith, h)

  pub early_order : (l : Items) (i j : ℕ) → Early ts l i j → i ≤ j
  early_order (Lines b c s e) i j h = omega (arith, h.1)
  early_order (Open c s) i j h = omega (arith, h.1)
  early_order (Each c us vs) i j h = absurd h
  early_order (Again c s) i j h = absurd h

  mutual
    pub derives_order : (t : Tree) (c : Category) → Derives ts c t → first t ≤ last t
    derives_order (node k i j ps) c h = spells_order ps (rule (place_of c) k) i j h.1

    pub spells_order : (ps : Trees) (r : Rule) (i j : ℕ) → Spells ts r i ps j → i ≤ j
    spells_order none (End ws) i j h = words_order ws i j h
    spells_order (more p ps) (End ws) i j h = absurd h
    spells_order (skip ps) (End ws) i j h = absurd h
    spells_order none (Then ws c r) i j h = absurd h
    spells_order (more p ps) (Then ws c r) i j h = omega (arith, words_order ws i (first p) h.0, derives_order p c h.1, spells_order ps r (last p) j h.2)
    spells_order (skip ps) (Then ws c r) i j h = absurd h
    spells_order none (Maybe ws c r) i j h = absurd h
    spells_order (more p ps) (Maybe ws c r) i j h = omega (arith, words_order ws i (first p) h.0, derives_order p c h.1, spells_order ps r (last p) j h.2)
    spells_order (skip ps) (Maybe ws c r) i j h = omega (arith, words_order ws i h.0 h.1, spells_order ps r h.0 j h.2)
    spells_order none (Unless ws c us r) i j h = absurd h
    spells_order (more p ps) (Unless ws c us r) i j h = omega (arith, words_order ws i (first p) h.0, derives_order p c h.1, spells_order ps r (last p) j h.2)
    spells_order (skip ps) (Unless ws c us r) i j h = omega (arith, words_order ws i h.0 h.1, spells_order ps r h.0 j h.3)
    spells_order none (Many ws l) i j h = omega (arith, words_order ws i h.0 h.1, close_order l h.0 j h.2)
    spells_order (more p ps) (Many ws l) i j h = omega (arith, words_order ws i h.0 h.1, gap_order l h.0 (first p) h.2, derives_order p (item l) h.3, goes_order ps l (last p) j h.4)
    spells_order (skip ps) (Many ws l) i j h = absurd h

    pub goes_order : (ps : Trees) (l : Items) (i j : ℕ) → Goes ts l i ps j → i ≤ j
    goes_order none l i j (inl h) = early_order l i j h
    goes_order none l i j (inr h) = omega (arith, between_order l i h.0 h.1, close_order l h.0 j h.2)
    goes_order (more p ps) l i j h = omega (arith, between_order l i h.0 h.1, gap_order l h.0 (first p) h.2, derives_order p (item l) h.3, goes_order ps l (last p) j h.4)
    goes_order (skip ps) l i j h = absurd h

  -- a text with a first word has a token
  pub word_grows : (ps : Trees) (r : Rule) (i j : ℕ) (x : TokenKind) → first_word r ≡ Some x → Spells ts r i ps j → i < j
  word_grows ps (End []) i j x e h = cc
  word_grows none (End (y ∷ ws)) i j x e h = omega (arith, words_order ws (suc i) j h.1)
  word_grows (more p ps) (End (y ∷ ws)) i j x e h = absurd h
  word_grows (skip ps) (End (y ∷ ws)) i j x e h = absurd h
  word_grows ps (Then [] c r) i j x e h = cc
  word_grows none (Then (y ∷ ws) c r) i j x e h = absurd h
  word_grows (more p ps) (Then (y ∷ ws) c r) i j x e h = omega (arith, words_order ws (suc i) (first p) h.0.1, derives_order p c h.1, spells_order ps r (last p) j h.2)
  word_grows (skip ps) (Then (y ∷ ws) c r) i j x e h = absurd h
  word_grows ps (Maybe [] c r) i j x e h = cc
  word_grows none (Maybe (y ∷ ws) c r) i j x e h = absurd h
  word_grows (more p ps) (Maybe (y ∷ ws) c r) i j x e h = omega (arith, words_order ws (suc i) (first p) h.0.1, derives_order p c h.1, spells_order ps r (last p) j h.2)
  word_grows (skip ps) (Maybe (y ∷ ws) c r) i j x e h = omega (arith, words_order ws (suc i) h.0 h.1.1, spells_order ps r h.0 j h.2)
  word_grows ps (Unless [] c us r) i j x e h = cc
  word_grows none (Unless (y ∷ ws) c us r) i j x e h = absurd h
  word_grows (more p ps) (Unless (y ∷ ws) c us r) i j x e h = omega (arith, words_order ws (suc i) (first p) h.0.1, derives_order p c h.1, spells_order ps r (last p) j h.2)
  word_grows (skip ps) (Unless (y ∷ ws) c us r) i j x e h = omega (arith, words_order ws (suc i) h.0 h.1.1, spells_order ps r h.0 j h.3)
  word_grows ps (Many [] l) i j x e h = cc
  word_grows none (Many (y ∷ ws) l) i j x e h = omega (arith, words_order ws (suc i) h.0 h.1.1, close_order l h.0 j h.2)
  word_grows (more p ps) (Many (y ∷ ws) l) i j x e h = omega (arith, words_order ws (suc i) h.0 h.1.1, gap_order l h.0 (first p) h.2, derives_order p (item l) h.3, goes_order ps l (last p) j h.4)
  word_grows (skip ps) (Many (y ∷ ws) l) i j x e h = absurd h

  word_there : (c : Category) (o : Option TokenKind) → begins c o ≡ true → (x : TokenKind) × (o ≡ Some x)
  word_there c None h = cc
  word_there c (Some x) h = (x, refl)

  mutual
    -- a derivation has a token
    pub derives_grows : (t : Tree) (c : Category) → Derives ts c t → first t < last t
    derives_grows (node k i j ps) c h = grows_by ps c k i j (first_part (rule (place_of c) k)) refl h.1 (begin_fact c k h.0)

    grows_by : (ps : Trees) (c : Category) (k : Kind) (i j : ℕ) (o : Option Category) → first_part (rule (place_of c) k) ≡ o → Spells ts (rule (place_of c) k) i ps j → begin_checked c k (rule (place_of c) k) o ≡ true → i < j
    grows_by ps c k i j None e h b = let w = word_there c (first_word (rule (place_of c) k)) b in word_grows ps (rule (place_of c) k) i j w.0 w.1 h
    grows_by none c k i j (Some d) e h b = let s : Spells ts (Then [] d (after_first (rule (place_of c) k))) i none j = subst (λ r. Spells ts r i none j) (first_part-is (rule (place_of c) k) d e) h in absurd s
    grows_by (more p ps) c k i j (Some d) e h b =
        let s : Spells ts (Then [] d (after_first (rule (place_of c) k))) i (more p ps) j = subst (λ r. Spells ts r i (more p ps) j) (first_part-is (rule (place_of c) k) d e) h in
        omega (arith, s.0, derives_grows p d s.1, spells_order ps (after_first (rule (place_of c) k)) (last p) j s.2)
    grows_by (skip ps) c k i j (Some d) e h b = let s : Spells ts (Then [] d (after_first (rule (place_of c) k))) i (skip ps) j = subst (λ r. Spells ts r i (skip ps) j) (first_part-is (rule (place_of c) k) d e) h in absurd s

  pub words_end : (ws : List TokenKind) (i j : ℕ) → Words ts i ws j → i ≤ length ts → j ≤ length ts
  words_end [] i j h le = omega (arith, h)
  words_end (w ∷ ws) i j h le = words_end ws (suc i) j h.1 (slice_get_within ts i w h.0)

  only_end : (s : TokenKind) (i j : ℕ) → Only ts s i j → i ≤ length ts → j ≤ length ts
  only_end s i zero h le = omega arith
  only_end s i (suc j) h le = elim (split i (suc j) h.order) [
    | inl e ↦ omega (arith, e)
    | inr lt ↦ slice_get_within ts j s (h.each j (omega arith) (omega arith))
  ]
    where
      split : (a b : ℕ) → a ≤ b → (a ≡ b) ⊎ (a < b)
      split a b le = grind arith

  close_end : (l : Items) (i j : ℕ) → Close ts l i j → i ≤ length ts → j ≤ length ts
  close_end (Lines b c s e) i j h le = omega (arith, h.3, slice_get_within ts h.0 e h.2)
  close_end (Open c s) i j h le = only_end s i j h le
  close_end (Each c us vs) i j h le = words_end vs i j h le
  close_end (Again c s) i j h le = omega (arith, h)

  pub between_end : (l : Items) (i k : ℕ) → Between ts l i k → i ≤ length ts → k ≤ length ts
  between_end (Lines b c s e) i k h le = omega (arith, h.1, slice_get_within ts i s h.0)
  between_end (Open c s) i k h le = omega (arith, h.1, slice_get_within ts i s h.0)
  between_end (Each c us vs) i k h le = words_end us i k h le
  between_end (Again c s) i k h le = omega (arith, h)

  pub early_end : (l : Items) (i j : ℕ) → Early ts l i j → i ≤ length ts → j ≤ length ts
  early_end (Lines b c s e) i j h le = omega (arith, h.1, slice_get_within ts i e h.0)
  early_end (Open c s) i j h le = omega (arith, h.1)
  early_end (Each c us vs) i j h le = absurd h
  early_end (Again c s) i j h le = absurd h

  starts_within : (t : Tree) (c : Category) → Derives ts c t → first t ≤ length ts
  starts_within t c d = let x = word_there c (slice_get ts (first t)) (begins_at ts t c d) in omega (arith, slice_get_within ts (first t) x.0 x.1)

  mutual
    -- a derivation ends within the tokens
    pub derives_end : (t : Tree) (c : Category) → Derives ts c t → first t ≤ length ts → last t ≤ length ts
    derives_end (node k i j ps) c h le = spells_end ps (rule (place_of c) k) i j h.1 le

    pub spells_end : (ps : Trees) (r : Rule) (i j : ℕ) → Spells ts r i ps j → i ≤ length ts → j ≤ length ts
    spells_end none (End ws) i j h le = words_end ws i j h le
    spells_end (more p ps) (End ws) i j h le = absurd h
    spells_end (skip ps) (End ws) i j h le = absurd h
    spells_end none (Then ws c r) i j h le = absurd h
    spells_end (more p ps) (Then ws c r) i j h le = spells_end ps r (last p) j h.2 (derives_end p c h.1 (words_end ws i (first p) h.0 le))
    spells_end (skip ps) (Then ws c r) i j h le = absurd h
    spells_end none (Maybe ws c r) i j h le = absurd h
    spells_end (more p ps) (Maybe ws c r) i j h le = spells_end ps r (last p) j h.2 (derives_end p c h.1 (words_end ws i (first p) h.0 le))
    spells_end (skip ps) (Maybe ws c r) i j h le = spells_end ps r h.0 j h.2 (words_end ws i h.0 h.1 le)
    spells_end none (Unless ws c us r) i j h le = absurd h
    spells_end (more p ps) (Unless ws c us r) i j h le = spells_end ps r (last p) j h.2 (derives_end p c h.1 (words_end ws i (first p) h.0 le))
    spells_end (skip ps) (Unless ws c us r) i j h le = spells_end ps r h.0 j h.3 (words_end ws i h.0 h.1 le)
    spells_end none (Many ws l) i j h le = close_end l h.0 j h.2 (words_end ws i h.0 h.1 le)
    spells_end (more p ps) (Many ws l) i j h le = goes_end ps l (last p) j h.4 (derives_end p (item l) h.3 (starts_within p (item l) h.3))
    spells_end (skip ps) (Many ws l) i j h le = absurd h

    goes_end : (ps : Trees) (l : Items) (i j : ℕ) → Goes ts l i ps j → i ≤ length ts → j ≤ length ts
    goes_end none l i j (inl h) le = early_end l i j h le
    goes_end none l i j (inr h) le = close_end l h.0 j h.2 (between_end l i h.0 h.1 le)
    goes_end (more p ps) l i j h le = goes_end ps l (last p) j h.4 (derives_end p (item l) h.3 (starts_within p (item l) h.3))
    goes_end (skip ps) l i j h le = absurd h

  pub lies_within : (c : Category) (t : Tree) → Derives ts c t → (first t < last t) × (last t ≤ length ts)
  lies_within c t d = (derives_grows t c d, derives_end t c d (starts_within t c d))
