-- Where a statement list of a typed function stands in the tree of its file (Go specification: Blocks, Expression switches).
use Rattle.std.specs.Prelude.{◌≡◌, ℕ, zero, suc, ◌+◌, true, List, [], ◌∷◌, Option, Some, None}
use Rattle.go_grammar.specs.declared.kind.Category.{Category}
use Rattle.go_grammar.specs.declared.kind.Category.TheVariants as categories
use Rattle.go_grammar.specs.declared.kind.Kind.{Kind}
use Rattle.go_grammar.specs.declared.kind.Kind.TheVariants as kind
use Rattle.go_grammar.specs.Categories.{place_of}
use Rattle.go_grammar.specs.Grammar.{rule}
use Rattle.go_grammar.specs.Rules.{Items}
use Rattle.go_grammar.specs.Trees.{Tree, Trees, none, more, skip, kind_of, first, last, parts}
use Rattle.go_rewriting.specs.Lists.{items_at, has_run}
use Rattle.go_rewriting.specs.Places.{range}
use Rattle.go_rewriting.specs.Replacing.{subtree_at, asked_at}
use Rattle.go_rewriting.specs.Sites.{items, is_clear, run_range}
use Rattle.go_print_laws.specs.Calls.{AreStatements}
use Rattle.go_typed.specs.Lists.{statements_of}
use Rattle.go_typed.specs.Trees.{Typed, first_of, last_of, mapped}
use Rattle.go_types.specs.Trees.{TypeTree}
use Rattle.go_types_relations.specs.Renaming.{renamed}
use Rattle.go_exprs_rules.specs.Scopes.{Hint}
use Rattle.go_stmts_defs.specs.Bodies.{based}
use Rattle.go_stmts_defs.specs.Frames.{Frame}
use Rattle.go_stmts_defs.specs.Reading.{Found, Reading, read, reading}

-- ---- parts of a tree over statements that are typed

-- the parts behind so many
abbrev pub parts_behind : ℕ → Trees → Trees
parts_behind zero ps = ps
parts_behind (suc n) none = none
parts_behind (suc n) (more p ps) = parts_behind n ps
parts_behind (suc n) (skip ps) = parts_behind n ps

-- The parts have one by one the tokens of the statements, which are counted from the token b on.
abbrev pub StandOver : {T : Type 0} → ℕ → Trees → List (Typed T) → Type 0
StandOver b none [] = Unit {0}
StandOver b none (x ∷ xs) = ⊥
StandOver b (more p ps) [] = ⊥
StandOver b (more p ps) (x ∷ xs) = (first p ≡ b + first_of x) × (last p ≡ b + last_of x) × StandOver b ps xs
StandOver b (skip ps) xs = ⊥

-- no rule fails at a node
abbrev pub Faultless : Found → Type 0
Faultless [] = Unit {0}
Faultless (fs ∷ found) = (fs ≡ []) × Faultless found

abbrev pub tree_in : Reading → Typed TypeTree
tree_in (read x found s) = x

abbrev pub found_in : Reading → Found
found_in (read x found s) = found

-- The statement is what is read of the tree, in which no rule fails, under other numbers of declared types.
pub record IsRead (name : ℕ → ℕ) (b : ℕ) (p : Tree) (x : Typed TypeTree) : Type 0 where
  pub frame : Frame
  pub hint : Hint
  pub is : x ≡ mapped (renamed name) (tree_in (reading frame hint (based b p)))
  pub faultless : Faultless (found_in (reading frame hint (based b p)))

-- one by one
abbrev pub AreRead : (ℕ → ℕ) → ℕ → Trees → List (Typed TypeTree) → Type 0
AreRead name b none [] = Unit {0}
AreRead name b none (x ∷ xs) = ⊥
AreRead name b (more p ps) [] = ⊥
AreRead name b (more p ps) (x ∷ xs) = IsRead name b p x × AreRead name b ps xs
AreRead name b (skip ps) xs = ⊥

-- ---- a statement list

-- how many parts of a node stand in front of its statements, where it lists statements: the values of a case
abbrev pub statements_from : Kind → Option ℕ
statements_from kind.Block = Some 0
statements_from kind.Default = Some 0
statements_from kind.Case = Some 1
statements_from k = None

-- In the tree of a file a path leads to the node of the statement list, and the statements are its parts behind the first ones. Tokens of
-- the list are counted from the token b on.
pub record ListStands (t : Tree) (b : ℕ) (l : Typed TypeTree) : Type 0 where
  pub path : List ℕ
  pub stood : Tree
  pub category : Category
  pub at_path : subtree_at path t ≡ Some stood
  pub asked : asked_at categories.File path t ≡ Some category
  -- the statements stand behind so many parts
  pub front : ℕ
  pub holds : statements_from (kind_of stood) ≡ Some front
  pub list : Items
  pub statements : AreStatements list
  pub is_list : items_at front (rule (place_of category) (kind_of stood)) ≡ Some list
  pub begins : first stood ≡ b + first_of l
  pub ends : last stood ≡ b + last_of l
  pub over : StandOver b (parts_behind front (parts stood)) (statements_of l)
  -- and they are what is read of these parts
  pub name : ℕ → ℕ
  pub read : AreRead name b (parts_behind front (parts stood)) (statements_of l)
  -- whatever statements stand in the place of some, the nodes above agree with their parts
  pub clear : (n m : ℕ) (new : Trees) → is_clear path (items n m new) t ≡ true

-- ---- adjoining statements of it

-- Behind the first n parts of the node stand one statement and m more, which have these tokens.
pub record RunStands (t : Tree) (b : ℕ) (l : Typed TypeTree) (s : ListStands t b l) (n m from upto : ℕ) : Type 0 where
  pub is_list : items_at n (rule (place_of s.category) (kind_of s.stood)) ≡ Some s.list
  pub has : has_run n m (parts s.stood) ≡ true
  pub place : run_range n m (parts s.stood) ≡ range from upto
