-- Statements of a list are enclosed.
use Rattle.std.proofs.Common.{◌≡◌, ℕ, zero, suc, ◌-◌, ◌<◌, ◌≤◌, ◌⊎◌, inl, inr, Bool, true, false, List, [], ◌∷◌, Some, refl, subst, arith}
use Rattle.go_tokens.specs.declared.token.TokenKind.{TokenKind}
use Rattle.go_tokens.specs.declared.token.TokenKind.TheVariants as token
use Rattle.go_grammar.specs.declared.kind.Category.{Category}
use Rattle.go_grammar.specs.declared.kind.Category.TheVariants as category
use Rattle.go_grammar.specs.declared.kind.Kind.{Kind}
use Rattle.go_grammar.specs.declared.kind.Place.{Place}
use Rattle.go_grammar.specs.declared.kind.Place.TheVariants as place
use Rattle.go_grammar.specs.Categories.{place_of}
use Rattle.go_grammar.specs.Grammar.{rule, IsAt, Words, Only, Gap, Between, Spells, Goes}
use Rattle.go_grammar.specs.Rules.{Items, Lines, Open, Each, Again, Rule, End, Then, Maybe, Unless, Many}
use Rattle.go_grammar.specs.Trees.{Tree, node, Trees, none, more, skip, first, last}
use Rattle.go_grammar.proofs.Public.{all, kinds, kinds_at}
use Rattle.go_rewriting.specs.Lists.{items_at, has_run}
use Rattle.go_rewriting.specs.Places.{has_items, items_end}
use Rattle.go_rewriting.specs.Sites.{run_range}
use Rattle.go_print_laws.specs.Calls.{AreStatements, of_block, of_clause}
use Rattle.extract_files.specs.Enclosed.{opens, RunsAreEnclosed}

-- the last of these words opens a list of statements
abbrev opened_by : List TokenKind → Bool
opened_by [] = false
opened_by (w ∷ []) = opens w
opened_by (v ∷ w ∷ ws) = opened_by (w ∷ ws)

abbrev of_statements : Category → Bool
of_statements category.Statement = true
of_statements c = false

abbrev where_true : Bool → Bool → Bool
where_true true x = x
where_true false x = true

-- wherever statements are listed, the words in front open the list
abbrev opened : Rule → Bool
opened (End ws) = true
opened (Then ws c r) = opened r
opened (Maybe ws c r) = opened r
opened (Unless ws c us r) = opened r
opened (Many ws (Lines b c s e)) = where_true (of_statements c) (opened_by ws)
opened (Many ws (Open c s)) = opened_by ws
opened (Many ws (Each c us vs)) = true
opened (Many ws (Again c s)) = true

abbrev opened_of : Place → Kind → Bool
opened_of p k = opened (rule p k)

free_opened : all (opened_of place.Free) kinds ≡ true
free_opened = refl

header_opened : all (opened_of place.Header) kinds ≡ true
header_opened = refl

rule_opened : (p : Place) (k : Kind) → opened (rule p k) ≡ true
rule_opened place.Free k = kinds_at (opened_of place.Free) free_opened k
rule_opened place.Header k = kinds_at (opened_of place.Header) header_opened k

module _ (ts : List TokenKind) where
  abbrev Behind : ℕ → Type 0
  Behind i = (IsAt ts i token.Semicolon) ⊎ (IsAt ts i token.RightBrace)

  record Front (i : ℕ) : Type 0 where
    place : ℕ
    next : suc place ≡ i
    word : TokenKind
    is : IsAt ts place word
    lists : opens word ≡ true

  -- ---- behind

  goes_behind : (l : Items) → AreStatements l → (i : ℕ) (ps : Trees) (j : ℕ) → Goes ts l i ps j → Behind i
  goes_behind l of_block i none j (inl e) = inr e.0
  goes_behind l of_block i none j (inr b) = inl b.1.0
  goes_behind l of_block i (more p ps) j g = inl g.1.0
  goes_behind l of_block i (skip ps) j g = absurd g
  goes_behind l of_clause i none j (inl e) = inr e.0
  goes_behind l of_clause i none j (inr b) = inl b.1.0
  goes_behind l of_clause i (more p ps) j g = inl g.1.0
  goes_behind l of_clause i (skip ps) j g = absurd g

  end_behind : (l : Items) → AreStatements l → (n : ℕ) (p : Tree) (ps : Trees) (j : ℕ) → Goes ts l (last p) ps j → has_items n ps ≡ true → Behind (items_end n p ps)
  end_behind l s zero p ps j g h = goes_behind l s (last p) ps j g
  end_behind l s (suc n) p none j g h = cc
  end_behind l s (suc n) p (more q qs) j g h = end_behind l s n q qs j g.4 h
  end_behind l s (suc n) p (skip qs) j g h = cc

  -- ---- in front

  only_front : (i k : ℕ) → Only ts token.Semicolon i k → Front i → Front k
  only_front i k o f = elim (two i k o.order) [
    | inl same ↦ subst Front same f
    | inr lt ↦ record { place = k - 1; next = omega (arith, lt); word = token.Semicolon; is = o.each (k - 1) (omega (arith, lt)) (omega (arith, lt)); lists = refl }
  ]
    where
      two : (i k : ℕ) → i ≤ k → (i ≡ k) ⊎ (i < k)
      two i k le = grind arith

  gap_front : (l : Items) → AreStatements l → (i k : ℕ) → Gap ts l i k → Front i → Front k
  gap_front l of_block i k g f = only_front i k g f
  gap_front l of_clause i k g f = only_front i k g f

  between_front : (l : Items) → AreStatements l → (i k : ℕ) → Between ts l i k → Front k
  between_front l of_block i k b = record { place = i; next = b.1; word = token.Semicolon; is = b.0; lists = refl }
  between_front l of_clause i k b = record { place = i; next = b.1; word = token.Semicolon; is = b.0; lists = refl }

  words_front : (ws : List TokenKind) (i k : ℕ) → Words ts i ws k → opened_by ws ≡ true → Front k
  words_front [] i k w o = cc
  words_front (v ∷ []) i k w o = record { place = i; next = w.1; word = v; is = w.0; lists = o }
  words_front (v ∷ u ∷ us) i k w o = words_front (u ∷ us) (suc i) k w.1 o

  many_opened : (l : Items) → AreStatements l → (ws : List TokenKind) → opened (Many ws l) ≡ true → opened_by ws ≡ true
  many_opened l of_block ws o = o
  many_opened l of_clause ws o = o

  -- ---- a run

  record Enclosed (i j : ℕ) : Type 0 where
    front : Front i
    behind : Behind j

  goes_run : (l : Items) → AreStatements l → (f n i : ℕ) (ps : Trees) (j : ℕ) → Goes ts l i ps j → has_run f n ps ≡ true → Enclosed (run_range f n ps).from (run_range f n ps).upto
  goes_run l s f n i none j g h = cc
  goes_run l s zero n i (more p ps) j g h = record { front = gap_front l s g.0 (first p) g.2 (between_front l s i g.0 g.1); behind = end_behind l s n p ps j g.4 h }
  goes_run l s (suc f) n i (more p ps) j g h = goes_run l s f n (last p) ps j g.4 h
  goes_run l s f n i (skip ps) j g h = absurd g

  spells_run : (l : Items) → AreStatements l → (r : Rule) (f n i : ℕ) (ps : Trees) (j : ℕ) → opened r ≡ true → Spells ts r i ps j → items_at f r ≡ Some l → has_run f n ps ≡ true → Enclosed (run_range f n ps).from (run_range f n ps).upto
  spells_run l s (End ws) f n i ps j o h e r = cc
  spells_run l s (Then ws c rs) zero n i ps j o h e r = cc
  spells_run l s (Then ws c rs) (suc f) n i none j o h e r = absurd h
  spells_run l s (Then ws c rs) (suc f) n i (more p ps) j o h e r = spells_run l s rs f n (last p) ps j o h.2 e r
  spells_run l s (Then ws c rs) (suc f) n i (skip ps) j o h e r = absurd h
  spells_run l s (Maybe ws c rs) zero n i ps j o h e r = cc
  spells_run l s (Maybe ws c rs) (suc f) n i none j o h e r = absurd h
  spells_run l s (Maybe ws c rs) (suc f) n i (more p ps) j o h e r = spells_run l s rs f n (last p) ps j o h.2 e r
  spells_run l s (Maybe ws c rs) (suc f) n i (skip ps) j o h e r = spells_run l s rs f n h.0 ps j o h.2 e r
  spells_run l s (Unless ws c us rs) zero n i ps j o h e r = cc
  spells_run l s (Unless ws c us rs) (suc f) n i none j o h e r = absurd h
  spells_run l s (Unless ws c us rs) (suc f) n i (more p ps) j o h e r = spells_run l s rs f n (last p) ps j o h.2 e r
  spells_run l s (Unless ws c us rs) (suc f) n i (skip ps) j o h e r = spells_run l s rs f n h.0 ps j o h.3 e r
  spells_run l s (Many ws m) f n i none j o h e r = cc
  spells_run l s (Many ws m) f n i (skip ps) j o h e r = absurd h
  spells_run l s (Many ws m) zero n i (more p ps) j o h e r =
      let same : m ≡ l = one m l e in
      let k : ℕ = h.0 in
      let front : Front h.0 = words_front ws i h.0 h.1 (many_opened l s ws (subst (λ m. opened (Many ws m) ≡ true) same o)) in
      record { front = gap_front l s h.0 (first p) (subst (λ m. Gap ts m h.0 (first p)) same h.2) front; behind = end_behind l s n p ps j (subst (λ m. Goes ts m (last p) ps j) same h.4) r }
    where
      one : (m l : Items) → Some m ≡ Some l → m ≡ l
      one m l e = cc
  spells_run l s (Many ws m) (suc f) n i (more p ps) j o h e r = goes_run l s f n (last p) ps j (subst (λ m. Goes ts m (last p) ps j) (one m l e) h.4) r
    where
      one : (m l : Items) → Some m ≡ Some l → m ≡ l
      one m l e = cc

pub runs_are_enclosed : RunsAreEnclosed
runs_are_enclosed ts c (node k a b ps) f n l s r =
    let e = spells_run ts l s (rule (place_of c) k) f n a ps b (rule_opened (place_of c) k) r.derives.1 r.is_list r.has in
    record { place = e.front.place; next = e.front.next; word = e.front.word; is = e.front.is; opens = e.front.lists; behind = e.behind }
