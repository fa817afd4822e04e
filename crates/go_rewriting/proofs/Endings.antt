-- Texts of statements, expressions and the like end with a token behind which a semicolon is inserted at a line's end.
use Rattle.std.proofs.Common.{◌≡◌, ℕ, suc, inl, inr, Bool, true, false, not, List, [], ◌∷◌, refl, ◌∙◌, subst}
use Rattle.std.specs.Prelude.{◌&&◌, ◌||◌}
use Rattle.go_tokens.specs.declared.token.TokenKind.{TokenKind}
use Rattle.go_tokens.specs.Spellings.{ends_statement_kind}
use Rattle.go_grammar.specs.declared.kind.Kind.{Kind}
use Rattle.go_grammar.specs.declared.kind.Category.{Category}
use Rattle.go_grammar.specs.Categories.{within, place_of}
use Rattle.go_grammar.specs.Rules.{Items, Lines, Open, Each, Again, Rule, End, Then, Maybe, Unless, Many, item}
use Rattle.go_grammar.specs.Trees.{Tree, node, Trees, none, more, skip, first, last}
use Rattle.go_grammar.specs.Grammar.{rule, Words, Close, Between, Early, Derives, Spells, Goes}
use Rattle.go_grammar.proofs.Public.{all, kinds, kinds_at, categories, categories_at, and_both}
use Rattle.go_rewriting.specs.Replacing.{Run}
use Rattle.go_rewriting.specs.Endings.{ends_well, Ending}

-- whether the last of these words ends a statement, or, if there are none, what stands in front does
abbrev last_fine : Bool → List TokenKind → Bool
last_fine b [] = b
last_fine b (w ∷ ws) = last_fine (ends_statement_kind w) ws

abbrev fine_items : Items → Bool
fine_items (Lines b c s e) = ends_statement_kind e
fine_items (Open c s) = false
fine_items (Each c us vs) = last_fine false vs
fine_items (Again c s) = ends_well c

-- without an item, the words and what stands in front of them are the end of a list with separators in front
abbrev fine_none : Bool → List TokenKind → Items → Bool
fine_none b ws (Lines x c s e) = true
fine_none b ws (Open c s) = true
fine_none b ws (Each c us vs) = true
fine_none b ws (Again c s) = last_fine b ws

-- whether what a right side ends with ends a statement, where b says it of what stands in front
abbrev fine : Bool → Rule → Bool
fine b (End ws) = last_fine b ws
fine b (Then ws c r) = fine (ends_well c) r
fine b (Maybe ws c r) = fine (ends_well c) r && fine (last_fine b ws) r
fine b (Unless ws c us r) = fine (ends_well c) r && fine (last_fine b ws) r
fine b (Many ws l) = fine_items l && fine_none b ws l

abbrev fine_of : Category → Kind → Bool
fine_of c k = not (within c k) || fine false (rule (place_of c) k)

abbrev fine_at : Category → Bool
fine_at c = not (ends_well c) || all (fine_of c) kinds

all_fine : all fine_at categories ≡ true
all_fine = refl

implied : (a b : Bool) → (not a || b) ≡ true → a ≡ true → b ≡ true
implied true b h e = h
implied false b h e = cc

rule_fine : (c : Category) (k : Kind) → ends_well c ≡ true → within c k ≡ true → fine false (rule (place_of c) k) ≡ true
rule_fine c k e h = implied (within c k) (fine false (rule (place_of c) k)) (kinds_at (fine_of c) (implied (ends_well c) (all (fine_of c) kinds) (categories_at fine_at all_fine c) e) k) h

module _ (ts : List TokenKind) where
  nothing : (i : ℕ) → false ≡ true → Ending ts i
  nothing i h = cc

  words_end : (ws : List TokenKind) (i j : ℕ) (b : Bool) → (b ≡ true → Ending ts i) → last_fine b ws ≡ true → Words ts i ws j → Ending ts j
  words_end [] i j b f e h = subst (Ending ts) h (f e)
  words_end (w ∷ ws) i j b f e h = words_end ws (suc i) j (ends_statement_kind w) (λ g. record { place = i; next = refl; word = w; is = h.0; ends = g }) e h.1

  close_ends : (l : Items) (i j : ℕ) → fine_items l ≡ true → ((c : Category) (s : TokenKind) → l ≡ Again c s → Ending ts i) → Close ts l i j → Ending ts j
  close_ends (Lines b c s e) i j f g h = record { place = h.0; next = h.3; word = e; is = h.2; ends = f }
  close_ends (Open c s) i j f g h = cc
  close_ends (Each c us vs) i j f g h = words_end vs i j false (nothing i) f h
  close_ends (Again c s) i j f g h = subst (Ending ts) h (g c s refl)

  early_ends : (l : Items) (i j : ℕ) → fine_items l ≡ true → Early ts l i j → Ending ts j
  early_ends (Lines b c s e) i j f h = record { place = i; next = h.1; word = e; is = h.0; ends = f }
  early_ends (Open c s) i j f h = cc
  early_ends (Each c us vs) i j f h = absurd h
  early_ends (Again c s) i j f h = absurd h

  after_ends : (l : Items) (p : Tree) (k j : ℕ) → fine_items l ≡ true → (ends_well (item l) ≡ true → Ending ts (last p)) → Between ts l (last p) k → Close ts l k j → Ending ts j
  after_ends (Lines b c s e) p k j f g h z = record { place = z.0; next = z.3; word = e; is = z.2; ends = f }
  after_ends (Open c s) p k j f g h z = cc
  after_ends (Each c us vs) p k j f g h z = words_end vs k j false (nothing k) f z
  after_ends (Again c s) p k j f g h z = subst (Ending ts) (h ∙ z) (g f)

  mutual
    pub tree_ends : (t : Tree) (c : Category) → ends_well c ≡ true → Derives ts c t → Ending ts (last t)
    tree_ends (node k a b ps) c e h = row_ends ps (rule (place_of c) k) a b false (nothing a) (rule_fine c k e h.0) h.1

    row_ends : (ps : Trees) (r : Rule) (i j : ℕ) (b : Bool) → (b ≡ true → Ending ts i) → fine b r ≡ true → Spells ts r i ps j → Ending ts j
    row_ends none (End ws) i j b f e h = words_end ws i j b f e h
    row_ends (more p ps) (End ws) i j b f e h = absurd h
    row_ends (skip ps) (End ws) i j b f e h = absurd h
    row_ends none (Then ws c r) i j b f e h = absurd h
    row_ends (more p ps) (Then ws c r) i j b f e h = row_ends ps r (last p) j (ends_well c) (λ g. tree_ends p c g h.1) e h.2
    row_ends (skip ps) (Then ws c r) i j b f e h = absurd h
    row_ends none (Maybe ws c r) i j b f e h = absurd h
    row_ends (more p ps) (Maybe ws c r) i j b f e h = row_ends ps r (last p) j (ends_well c) (λ g. tree_ends p c g h.1) (and_both (fine (ends_well c) r) (fine (last_fine b ws) r) e).0 h.2
    row_ends (skip ps) (Maybe ws c r) i j b f e h = row_ends ps r h.0 j (last_fine b ws) (λ g. words_end ws i h.0 b f g h.1) (and_both (fine (ends_well c) r) (fine (last_fine b ws) r) e).1 h.2
    row_ends none (Unless ws c us r) i j b f e h = absurd h
    row_ends (more p ps) (Unless ws c us r) i j b f e h = row_ends ps r (last p) j (ends_well c) (λ g. tree_ends p c g h.1) (and_both (fine (ends_well c) r) (fine (last_fine b ws) r) e).0 h.2
    row_ends (skip ps) (Unless ws c us r) i j b f e h = row_ends ps r h.0 j (last_fine b ws) (λ g. words_end ws i h.0 b f g h.1) (and_both (fine (ends_well c) r) (fine (last_fine b ws) r) e).1 h.3
    row_ends none (Many ws l) i j b f e h =
        let x = and_both (fine_items l) (fine_none b ws l) e in
        close_ends l h.0 j x.0 (λ c s g. words_end ws i h.0 b f (subst (λ m. fine_none b ws m ≡ true) g x.1) h.1) h.2
    row_ends (more p ps) (Many ws l) i j b f e h = item_ends ps l p j (and_both (fine_items l) (fine_none b ws l) e).0 h.3 (λ g. tree_ends p (item l) g h.3) h.4
    row_ends (skip ps) (Many ws l) i j b f e h = absurd h

    item_ends : (ps : Trees) (l : Items) (p : Tree) (j : ℕ) → fine_items l ≡ true → Derives ts (item l) p → (ends_well (item l) ≡ true → Ending ts (last p)) → Goes ts l (last p) ps j → Ending ts j
    item_ends none l p j e d f (inl h) = early_ends l (last p) j e h
    item_ends none l p j e d f (inr h) = after_ends l p h.0 j e f h.1 h.2
    item_ends (more q ps) l p j e d f h = item_ends ps l q j e h.3 (λ g. tree_ends q (item l) g h.3) h.4
    item_ends (skip ps) l p j e d f h = absurd h

  -- a run of such items
  pub run_ends : (l : Items) (new : Trees) (a b : ℕ) → ends_well (item l) ≡ true → Run ts l new a b → Ending ts b
  run_ends l none a b e r = absurd r
  run_ends l (skip ps) a b e r = absurd r
  run_ends l (more p none) a b e r = subst (Ending ts) r.2 (tree_ends p (item l) e r.1)
  run_ends l (more p (skip qs)) a b e r = absurd r
  run_ends l (more p (more q qs)) a b e r = run_ends l (more q qs) (first q) b e r.5
