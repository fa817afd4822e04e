-- Parts of a tree by their numbers: the parts of each node in order inside it, the subtree at the end of a path, and so many
-- adjoining items of a list.
use Rattle.std.specs.Prelude.{◌≡◌, ℕ, zero, suc, ◌<◌, ◌≤◌, Bool, true, false, List, [], ◌∷◌, ◌++◌, length, Option, Some, None, slice_get}
use Rattle.go_tokens.specs.declared.token.TokenKind.{TokenKind}
use Rattle.go_tokens.specs.declared.token.TokenKind.TheVariants as token
use Rattle.go_grammar.specs.declared.kind.Category.{Category}
use Rattle.go_grammar.specs.declared.kind.Category.TheVariants as category
use Rattle.go_grammar.specs.Categories.{place_of}
use Rattle.go_grammar.specs.Rules.{Items, Lines, Open, Rule, End, Then, Maybe, Unless, Many}
use Rattle.go_grammar.specs.Trees.{Tree, node, Trees, none, more, skip, kind_of, first, last, parts}
use Rattle.go_grammar.specs.Grammar.{rule, Derives}
use Rattle.go_rewriting.specs.Replacing.{moved, Edge, subtree_at, asked_at, Run}
use Rattle.go_rewriting.specs.Places.{carries, has_items, range, Fits, Change, changed, moved_by}
use Rattle.go_rewriting.specs.Sites.{whole, items, Site, run_range, alone, into}

abbrev mutual
  -- each node has a token, and its parts lie one behind the other inside it
  pub InOrder : Tree → Type 0
  InOrder (node k a b ps) = (a < b) × Ordered a ps b

  -- the same of parts from i up to j
  pub Ordered : ℕ → Trees → ℕ → Type 0
  Ordered i none j = i ≤ j
  Ordered i (more p ps) j = (i ≤ first p) × InOrder p × Ordered (last p) ps j
  Ordered i (skip ps) j = Ordered i ps j

-- The subtree s at the end of the path is a text of what is asked for there, and lies inside the tree, its parts in order.
pub record Subtree (ts : List TokenKind) (c : Category) (t : Tree) (path : List ℕ) (s : Tree) : Type 0 where
  pub category : Category
  pub asked : asked_at c path t ≡ Some category
  pub derives : Derives ts category s
  pub begins : first t ≤ first s
  pub some : first s < last s
  pub ends : last s ≤ last t
  pub tiled : Ordered (first s) (parts s) (last s)

-- the items that stand behind so many parts of a right side
abbrev pub items_at : ℕ → Rule → Option Items
items_at n (Many ws l) = Some l
items_at n (End ws) = None
items_at zero (Then ws c r) = None
items_at (suc n) (Then ws c r) = items_at n r
items_at zero (Maybe ws c r) = None
items_at (suc n) (Maybe ws c r) = items_at n r
items_at zero (Unless ws c us r) = None
items_at (suc n) (Unless ws c us r) = items_at n r

-- is there a part behind so many, and so many more items
abbrev pub has_run : ℕ → ℕ → Trees → Bool
has_run f n none = false
has_run zero n (more p ps) = has_items n ps
has_run zero n (skip ps) = false
has_run (suc f) n (more p ps) = has_run f n ps
has_run (suc f) n (skip ps) = has_run f n ps

-- so many items
abbrev pub so_many : ℕ → Trees → Trees
so_many zero ps = none
so_many (suc n) none = none
so_many (suc n) (more p ps) = more p (so_many n ps)
so_many (suc n) (skip ps) = none

-- behind so many parts, one and so many more
abbrev pub run_at : ℕ → ℕ → Trees → Trees
run_at zero n ps = so_many (suc n) ps
run_at (suc f) n none = none
run_at (suc f) n (more p ps) = run_at f n ps
run_at (suc f) n (skip ps) = run_at f n ps

-- Every category but that of the clauses of a switch. A text of it depends on no closing brace behind it.
abbrev pub no_clause : Category → Bool
no_clause category.Clause = false
no_clause c = true

-- The tokens from i up to j also stand among the tokens us, from `to` on, and what is behind them there doesn't change them:
-- it is no opening brace, and behind a closing parenthesis no word that begins a result, unless the old one is.
pub record Elsewhere (ts us : List TokenKind) (i j to : ℕ) : Type 0 where
  pub same : (n : ℕ) → i ≤ n → n < j → slice_get us (moved i to n) ≡ slice_get ts n
  pub edge : Edge ts us j (moved i to j)

-- the statements of a block, and those of a clause
abbrev pub in_block : Items
in_block = Lines true category.Statement token.Semicolon token.RightBrace

abbrev pub in_clause : Items
in_clause = Open category.Statement token.Semicolon

abbrev mutual
  -- both trees have the same kinds at the same places
  pub Alike : Tree → Tree → Type 0
  Alike (node k a b ps) (node l c d qs) = (k ≡ l) × AlikeAll ps qs

  pub AlikeAll : Trees → Trees → Type 0
  AlikeAll none none = Unit {0}
  AlikeAll none (more q qs) = ⊥
  AlikeAll none (skip qs) = ⊥
  AlikeAll (more p ps) none = ⊥
  AlikeAll (more p ps) (more q qs) = Alike p q × AlikeAll ps qs
  AlikeAll (more p ps) (skip qs) = ⊥
  AlikeAll (skip ps) none = ⊥
  AlikeAll (skip ps) (more q qs) = ⊥
  AlikeAll (skip ps) (skip qs) = AlikeAll ps qs

-- An alike tree stands in place of the one at the end of the path, as one name in place of another.
pub record AlikeSite (t : Tree) (x : Site) : Type 0 where
  pub old : Tree
  pub new : Tree
  pub stood : subtree_at x.path t ≡ Some old
  pub is : x.change ≡ whole new
  pub alike : Alike old new

abbrev pub AllAlike : Tree → List Site → Type 0
AllAlike t [] = Unit {0}
AllAlike t (x ∷ xs) = AlikeSite t x × AllAlike t xs

-- The items are a run of what is listed behind so many parts of the node, over the words of the change, with ws behind them; and
-- the change is at the place of one and so many more items there.
pub record NewRun (x : Change) (ws : List TokenKind) (c : Category) (t : Tree) (f n : ℕ) (new : Trees) : Type 0 where
  pub list : Items
  pub is_list : items_at f (rule (place_of c) (kind_of t)) ≡ Some list
  pub has : has_run f n (parts t) ≡ true
  pub place : run_range f n (parts t) ≡ range x.from x.upto
  pub run : Run (x.words ++ ws) list new 0 (length x.words)

abbrev pub NewRunFits : List TokenKind → List Change → Change → Category → Tree → ℕ → ℕ → Trees → Type 0
NewRunFits ts xs x c t f n new = Fits ts (changed xs ts) (moved_by xs) c t (alone (items f n (carries (into xs x) new)))

-- One and so many more items of the node, behind so many parts, are a run.
pub record IsRun (ts : List TokenKind) (c : Category) (t : Tree) (f n : ℕ) (list : Items) : Type 0 where
  pub derives : Derives ts c t
  pub is_list : items_at f (rule (place_of c) (kind_of t)) ≡ Some list
  pub has : has_run f n (parts t) ≡ true

abbrev pub RunStands : List TokenKind → Tree → ℕ → ℕ → Items → Type 0
RunStands ts t f n list = Run ts list (run_at f n (parts t)) (run_range f n (parts t)).from (run_range f n (parts t)).upto
