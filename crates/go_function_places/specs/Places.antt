-- Where the functions of a package stand in its files, and the tokens of their statements (Go specification: Function declarations,
-- Statements).
use Rattle.std.specs.Prelude.{◌≡◌, ℕ, suc, ◌-◌, ◌<◌, ◌≤◌, ◌⊎◌, List, [], ◌∷◌, length, map, Some, slice_get}
use Rattle.std.specs.List.{AllByRecursion}
use Rattle.go_tokens.specs.Tokens.{AreOrdered, span_of}
use Rattle.go_tree.specs.File.{FileTree}
use Rattle.go_tree.specs.Uses.{functions_among}
use Rattle.go_typed.specs.Contents.{Content, FuncContent}
use Rattle.go_typed.specs.Lists.{statement_lists, statements_of}
use Rattle.go_typed.specs.Trees.{Typed, first_of, last_of}
use Rattle.go_scopes.specs.Numbering.{spot_of}

-- ---- statements

-- Statements lie among these tokens, one behind the other, and each has a token at least.
abbrev pub StandInRow : {T : Type 0} → ℕ → ℕ → List (Typed T) → Type 0
StandInRow i j [] = Unit {0}
StandInRow i j (x ∷ xs) = (i ≤ first_of x) × (first_of x < last_of x) × (last_of x ≤ j) × StandInRow (last_of x) j xs

-- The statements of each statement list of a tree lie so among so many tokens.
abbrev pub ListsStandIn : {T : Type 0} → ℕ → Typed T → Type 0
ListsStandIn n t = AllByRecursion (λ l. StandInRow 0 n (statements_of l)) (statement_lists t)

-- ---- functions

-- a function of a file: its first token, and the token behind its last one
pub record FunctionPlace : Type 0 where
  pub file : ℕ
  pub first : ℕ
  pub last : ℕ

-- The one stands in an earlier file, or in front of the other in the same one.
abbrev pub StandsBefore : FunctionPlace → FunctionPlace → Type 0
StandsBefore p q = (p.file < q.file) ⊎ ((p.file ≡ q.file) × (p.last ≤ q.first))

-- each before all behind it
abbrev pub AreInOrder : List FunctionPlace → Type 0
AreInOrder [] = Unit {0}
AreInOrder (p ∷ ps) = AllByRecursion (StandsBefore p) ps × AreInOrder ps

-- There is such a file, whose tokens stand in order in its text; and these are tokens of it, but for its first one.
pub record StandsIn (files : List FileTree) (p : FunctionPlace) : Type 0 where
  pub file : FileTree
  pub there : slice_get files p.file ≡ Some file
  pub ordered : AreOrdered 0 (map span_of file.tokens.tokens) (length file.tokens.text)
  pub behind : 0 < p.first
  pub some : p.first < p.last
  pub within : p.last ≤ length file.tokens.tokens

-- a function is named at its second token
abbrev pub name_spot : FunctionPlace → ℕ × ℕ
name_spot p = (p.file, suc p.first)

-- Each function has a place, in which the statements of its lists stand in a row; its tokens are counted from its first one.
abbrev pub HaveStatements : List FunctionPlace → List FuncContent → Type 0
HaveStatements [] [] = Unit {0}
HaveStatements (p ∷ ps) (f ∷ fs) = ListsStandIn (p.last - p.first) f.tree × HaveStatements ps fs
HaveStatements ps fs = ⊥

-- The functions of a package have places in its files, in their order, under which they are declared.
pub record HavePlaces (c : Content) : Type 0 where
  pub places : List FunctionPlace
  pub named : map name_spot places ≡ map spot_of (functions_among c.uses.package_level)
  pub stand : AllByRecursion (StandsIn c.files) places
  pub order : AreInOrder places
  pub statements : HaveStatements places c.functions
