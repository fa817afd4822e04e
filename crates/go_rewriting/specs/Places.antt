-- What it is to replace several disjoint parts of a tree at once.
--
-- A patch says what becomes of each part of a tree, from the top down. A place of the old tokens that is not inside a replaced
-- part has a place in the new tokens: m is this function, and a node that stays stands from the moved place of its first token
-- up to the moved place of its end.
use Rattle.std.specs.Prelude.{◌≡◌, ℕ, zero, suc, ◌+◌, ◌<◌, ◌≤◌, ◌⊎◌, Bool, true, false, IsTrue, nat_le, ◌&&◌, if◌then◌else◌, List, [], ◌∷◌, ◌++◌, slice_get, length, take, drop}
use Rattle.go_tokens.specs.declared.token.TokenKind.{TokenKind}
use Rattle.go_tokens.specs.declared.token.TokenKind.TheVariants as token
use Rattle.go_grammar.specs.declared.kind.Category.{Category}
use Rattle.go_grammar.specs.declared.kind.Category.TheVariants as category
use Rattle.go_grammar.specs.Categories.{place_of}
use Rattle.go_grammar.specs.Rules.{Rule, End, Then, Maybe, Unless, Many}
use Rattle.go_grammar.specs.Trees.{Tree, node, Trees, none, more, skip, first, last, depth, onto}
use Rattle.go_grammar.specs.Grammar.{rule, agrees, IsAt, Derives}
use Rattle.go_rewriting.specs.Replacing.{moved, next_category, next_rule, Edge, Run}

mutual
  -- what becomes of a subtree
  pub data Patch : Type 0 where
    -- it stays
    keep : Patch
    -- this tree stands in its place
    put : Tree → Patch
    -- its node stays, and this becomes of its parts
    inside : Patches → Patch

  -- what becomes of a row of parts
  pub data Patches : Type 0 where
    -- all stay
    done : Patches
    -- This becomes of the next part, and this of the others. A part that is left out stays so.
    part : Patch → Patches → Patches
    -- these items stand in place of the next one and so many more; and this becomes of the others
    run : ℕ → Trees → Patches → Patches

abbrev mutual
  -- a tree that stays, with its places moved
  pub carry : (ℕ → ℕ) → Tree → Tree
  carry m (node k a b ps) = node k (m a) (m b) (carries m ps)

  pub carries : (ℕ → ℕ) → Trees → Trees
  carries m none = none
  carries m (more p ps) = more (carry m p) (carries m ps)
  carries m (skip ps) = skip (carries m ps)

-- are there so many items
abbrev pub has_items : ℕ → Trees → Bool
has_items zero ps = true
has_items (suc n) none = false
has_items (suc n) (more p ps) = has_items n ps
has_items (suc n) (skip ps) = false

-- the items behind so many
abbrev pub items_behind : ℕ → Trees → Trees
items_behind zero ps = ps
items_behind (suc n) none = none
items_behind (suc n) (more p ps) = items_behind n ps
items_behind (suc n) (skip ps) = none

-- where the item p and so many more end
abbrev pub items_end : ℕ → Tree → Trees → ℕ
items_end zero p ps = last p
items_end (suc n) p none = last p
items_end (suc n) p (more q qs) = items_end n q qs
items_end (suc n) p (skip ps) = last p

abbrev mutual
  -- the new tree
  pub become : (ℕ → ℕ) → Tree → Patch → Tree
  become m t keep = carry m t
  become m t (put s) = s
  become m (node k a b ps) (inside qs) = node k (m a) (m b) (become_all m ps qs)

  pub become_all : (ℕ → ℕ) → Trees → Patches → Trees
  become_all m ps done = carries m ps
  become_all m none (part q qs) = none
  become_all m (more p ps) (part q qs) = more (become m p q) (become_all m ps qs)
  become_all m (skip ps) (part q qs) = skip (become_all m ps qs)
  become_all m none (run n new qs) = none
  become_all m (more p ps) (run n new qs) = onto new (become_all m (items_behind n ps) qs)
  become_all m (skip ps) (run n new qs) = none

-- the tokens from one place up to another
pub record Range : Type 0 where
  pub from : ℕ
  pub upto : ℕ

abbrev pub range : ℕ → ℕ → Range
range i j = record { from = i; upto = j }

abbrev mutual
  -- the replaced places, in order
  pub places : Tree → Patch → List Range
  places t keep = []
  places t (put s) = range (first t) (last t) ∷ []
  places (node k a b ps) (inside qs) = places_in ps qs

  pub places_in : Trees → Patches → List Range
  places_in ps done = []
  places_in none (part q qs) = []
  places_in (more p ps) (part q qs) = places p q ++ places_in ps qs
  places_in (skip ps) (part q qs) = places_in ps qs
  places_in none (run n new qs) = []
  places_in (more p ps) (run n new qs) = range (first p) (items_end n p ps) ∷ places_in (items_behind n ps) qs
  places_in (skip ps) (run n new qs) = []

-- the token n is in none of these places
abbrev pub Outside : ℕ → List Range → Type 0
Outside n [] = Unit {0}
Outside n (r ∷ rs) = ((n < r.from) ⊎ (r.upto ≤ n)) × Outside n rs

-- these places lie one behind the other from i up to j, and each has a token
abbrev pub Ascending : ℕ → List Range → ℕ → Type 0
Ascending i [] j = i ≤ j
Ascending i (r ∷ rs) j = (i ≤ r.from) × (r.from < r.upto) × Ascending r.upto rs j

-- the token n stands among the new ones at its moved place, and the place behind it is moved with it
pub record Stays (ts ts' : List TokenKind) (m : ℕ → ℕ) (n : ℕ) : Type 0 where
  pub same : slice_get ts' (m n) ≡ slice_get ts n
  pub next : m (suc n) ≡ suc (m n)

abbrev mutual
  -- each node with a changed part agrees with its parts
  pub agreed : (ℕ → ℕ) → Tree → Patch → Bool
  agreed m t keep = true
  agreed m t (put s) = true
  agreed m (node k a b ps) (inside qs) = agrees k (become_all m ps qs) && all_agreed m ps qs

  pub all_agreed : (ℕ → ℕ) → Trees → Patches → Bool
  all_agreed m ps done = true
  all_agreed m none (part q qs) = true
  all_agreed m (more p ps) (part q qs) = agreed m p q && all_agreed m ps qs
  all_agreed m (skip ps) (part q qs) = all_agreed m ps qs
  all_agreed m none (run n new qs) = true
  all_agreed m (more p ps) (run n new qs) = all_agreed m (items_behind n ps) qs
  all_agreed m (skip ps) (run n new qs) = true

abbrev mutual
  -- Each new tree is over the new tokens a text of the category that is asked for at its place, from the moved place of the
  -- old one's first token up to that of its end.
  pub Fits : List TokenKind → List TokenKind → (ℕ → ℕ) → Category → Tree → Patch → Type 0
  Fits ts ts' m c t keep = Unit {0}
  Fits ts ts' m c t (put s) = Derives ts' c s × (first s ≡ m (first t)) × (last s ≡ m (last t)) × Edge ts ts' (first t) (m (first t))
  Fits ts ts' m c (node k a b ps) (inside qs) = FitAll ts ts' m (rule (place_of c) k) ps qs

  pub FitAll : List TokenKind → List TokenKind → (ℕ → ℕ) → Rule → Trees → Patches → Type 0
  FitAll ts ts' m r ps done = Unit {0}
  FitAll ts ts' m r none (part q qs) = ⊥
  FitAll ts ts' m r (more p ps) (part q qs) = Fits ts ts' m (next_category r) p q × FitAll ts ts' m (next_rule r) ps qs
  FitAll ts ts' m r (skip ps) (part q qs) = FitAll ts ts' m (next_rule r) ps qs
  FitAll ts ts' m (End ws) ps (run n new qs) = ⊥
  FitAll ts ts' m (Then ws c r) ps (run n new qs) = ⊥
  FitAll ts ts' m (Maybe ws c r) ps (run n new qs) = ⊥
  FitAll ts ts' m (Unless ws c us r) ps (run n new qs) = ⊥
  FitAll ts ts' m (Many ws l) none (run n new qs) = ⊥
  FitAll ts ts' m (Many ws l) (more p ps) (run n new qs) = IsTrue (has_items n ps) × Run ts' l new (m (first p)) (m (items_end n p ps)) × Edge ts ts' (first p) (m (first p)) × FitAll ts ts' m (Many ws l) (items_behind n ps) qs
  FitAll ts ts' m (Many ws l) (skip ps) (run n new qs) = ⊥

-- the tokens from a place up to another, and the words that stand in place of them
pub record Change : Type 0 where
  pub from : ℕ
  pub upto : ℕ
  pub words : List TokenKind

-- the tokens with this change
abbrev pub exchanged : Change → List TokenKind → List TokenKind
exchanged x ts = take x.from ts ++ (x.words ++ drop x.upto ts)

-- The tokens with these changes. Their places are those of the old tokens, each behind the one before; so the last is made
-- first.
abbrev pub changed : List Change → List TokenKind → List TokenKind
changed [] ts = ts
changed (x ∷ xs) ts = exchanged x (changed xs ts)

-- where a place that is not inside a changed one moves to
abbrev pub moved_by : List Change → ℕ → ℕ
moved_by [] n = n
moved_by (x ∷ xs) n = if nat_le n x.from then n else moved x.upto (x.from + length x.words) (moved_by xs n)

-- the places of the changes
abbrev pub ranges : List Change → List Range
ranges [] = []
ranges (x ∷ xs) = range x.from x.upto ∷ ranges xs

-- The words of the change stand among the new tokens us at its moved place.
pub record Stand (us : List TokenKind) (m : ℕ → ℕ) (x : Change) : Type 0 where
  pub words : (k : ℕ) → k < length x.words → slice_get us (m x.from + k) ≡ slice_get x.words k
  pub ends : m x.upto ≡ m x.from + length x.words

-- the tree of a file with the declaration d behind all others, up to j
abbrev pub with_declaration : Tree → Tree → ℕ → Tree
with_declaration (node k a b ps) d j = node k a j (onto ps (more d none))

-- The tree of a declaration that is all of these tokens, with a semicolon behind it.
pub record IsDeclaration (ws : List TokenKind) (d : Tree) : Type 0 where
  pub derives : Derives ws category.Declaration d
  pub begins : first d ≡ 0
  pub closed : IsAt ws (last d) token.Semicolon
  pub all : length ws ≡ suc (last d)
  pub shallow : depth d ≤ 100
