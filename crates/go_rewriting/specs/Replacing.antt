-- Subtrees by paths, what a new text must not do to what stands in front of it, and runs of items.
use Rattle.std.specs.Prelude.{◌≡◌, ℕ, zero, suc, ◌+◌, ◌-◌, Bool, true, false, nat_le, ◌&&◌, List, [], ◌∷◌, Option, Some, None, slice_get}
use Rattle.go_tokens.specs.declared.token.TokenKind.{TokenKind}
use Rattle.go_tokens.specs.declared.token.TokenKind.TheVariants as token
use Rattle.go_grammar.specs.declared.kind.Category.{Category}
use Rattle.go_grammar.specs.declared.kind.Category.TheVariants as category
use Rattle.go_grammar.specs.Categories.{place_of}
use Rattle.go_grammar.specs.Rules.{Items, Rule, End, Then, Maybe, Unless, Many, item}
use Rattle.go_grammar.specs.Trees.{Tree, node, Trees, none, more, skip, first, last}
use Rattle.go_grammar.specs.Grammar.{rule, agrees, result_words, IsAt, Derives, Between, Gap}
use Rattle.go_grammar.specs.declared.kind.Level.{Level}
use Rattle.go_grammar.specs.Operators.{rank}
use Rattle.go_grammar.specs.Words.{is_word, is_among}

-- A place from j on, where what stood from j on now stands from j' on.
abbrev pub moved : ℕ → ℕ → ℕ → ℕ
moved j j' n = n - j + j'

-- A path leads from a node to one below it: it has the number of a part, then that of a part of this one, and so on.
abbrev mutual
  -- the subtree at the end of the path
  pub subtree_at : List ℕ → Tree → Option Tree
  subtree_at [] t = Some t
  subtree_at (n ∷ path) (node k a b ps) = subtree_in n path ps

  pub subtree_in : ℕ → List ℕ → Trees → Option Tree
  subtree_in n path none = None
  subtree_in zero path (more p ps) = subtree_at path p
  subtree_in (suc n) path (more p ps) = subtree_in n path ps
  subtree_in zero path (skip ps) = None
  subtree_in (suc n) path (skip ps) = subtree_in n path ps

-- the category of a right side's next part, and what follows that part
abbrev pub next_category : Rule → Category
next_category (End ws) = category.File
next_category (Then ws c r) = c
next_category (Maybe ws c r) = c
next_category (Unless ws c us r) = c
next_category (Many ws l) = item l

abbrev pub next_rule : Rule → Rule
next_rule (End ws) = End ws
next_rule (Then ws c r) = r
next_rule (Maybe ws c r) = r
next_rule (Unless ws c us r) = r
next_rule (Many ws l) = Many ws l

abbrev mutual
  -- the category that is asked for at the end of the path
  pub asked_at : Category → List ℕ → Tree → Option Category
  asked_at c [] t = Some c
  asked_at c (n ∷ path) (node k a b ps) = asked_in (rule (place_of c) k) n path ps

  pub asked_in : Rule → ℕ → List ℕ → Trees → Option Category
  asked_in r n path none = None
  asked_in r zero path (more p ps) = asked_at (next_category r) path p
  asked_in r (suc n) path (more p ps) = asked_in (next_rule r) n path ps
  asked_in r zero path (skip ps) = None
  asked_in r (suc n) path (skip ps) = asked_in (next_rule r) n path ps

abbrev mutual
  -- the nodes of the tree agree with their parts
  pub agree : Tree → Bool
  agree (node k a b ps) = agrees k ps && agree_all ps

  pub agree_all : Trees → Bool
  agree_all none = true
  agree_all (more p ps) = agree p && agree_all ps
  agree_all (skip ps) = agree_all ps

-- A new text that begins at j, where the old one began at i, doesn't change what stands in front: it begins with an opening
-- brace only where the old one did; and, behind a closing parenthesis, with a word that begins a result only where the old
-- one did.
pub record Edge (ts ts' : List TokenKind) (i j : ℕ) : Type 0 where
  pub brace : is_word (slice_get ts' j) token.LeftBrace ≡ true → is_word (slice_get ts i) token.LeftBrace ≡ true
  pub result : (n : ℕ) → suc n ≡ i → IsAt ts n token.RightParenthesis → is_among (slice_get ts' j) result_words ≡ true → is_among (slice_get ts i) result_words ≡ true

-- expressions of the level stand where this category is asked for, in its place
abbrev pub takes_level : Level → Category → Bool
takes_level l (category.Expression m p) = nat_le (rank m) (rank l)
takes_level l category.Bracket = true
takes_level l category.Element = true
takes_level l category.Value = true
takes_level l category.IfHeader = true
takes_level l category.SwitchHeader = true
takes_level l category.ForHeader = true
takes_level l c = false

-- one item at least, from i up to j, with what has to stand between them
abbrev pub Run : List TokenKind → Items → Trees → ℕ → ℕ → Type 0
Run ts l none i j = ⊥
Run ts l (skip ps) i j = ⊥
Run ts l (more p none) i j = (first p ≡ i) × Derives ts (item l) p × (last p ≡ j)
Run ts l (more p (skip qs)) i j = ⊥
Run ts l (more p (more q qs)) i j = (first p ≡ i) × Derives ts (item l) p × (k : ℕ) × Between ts l (last p) k × Gap ts l k (first q) × Run ts l (more q qs) (first q) j
