-- Where the windows of members, and the holes of the template, stand in the trees of their files.
use Rattle.std.specs.Prelude.{◌≡◌, ℕ, ◌+◌, ◌<◌, ◌≤◌, true, List, [], ◌∷◌, Some, slice_get}
use Rattle.std.specs.List.{AllByRecursion}
use Rattle.go_grammar.specs.declared.kind.Category.{Category}
use Rattle.go_grammar.specs.declared.kind.Category.TheVariants as categories
use Rattle.go_grammar.specs.declared.kind.Level.TheVariants as level
use Rattle.go_grammar.specs.Categories.{is_expression, place_of}
use Rattle.go_grammar.specs.Grammar.{rule}
use Rattle.go_grammar.specs.Rules.{Items}
use Rattle.go_grammar.specs.Trees.{Tree, Trees, first, kind_of, last, parts}
use Rattle.go_rewriting.specs.Lists.{has_run, items_at}
use Rattle.go_rewriting.specs.Places.{range}
use Rattle.go_rewriting.specs.Replacing.{asked_at, subtree_at, takes_level}
use Rattle.go_rewriting.specs.Sites.{is_clear, items, run_range, whole}
use Rattle.go_tree.specs.File.{FileTree}
use Rattle.go_tree.specs.Views.{view}
use Rattle.go_types.specs.Trees.{TypeTree}
use Rattle.go_typed.specs.declared.window.Window.{Window}
use Rattle.go_typed.specs.Contents.{Content}
use Rattle.go_print_laws.specs.Calls.{AreStatements}
use Rattle.param_choose.specs.Holes.{Hole, holes}
use Rattle.param_choose.specs.Members.{Member, members_of}
use Rattle.escape_check.specs.Places.{file_of, sources_of}

-- ---- windows

-- A member's statements are adjoining parts of a node of the tree of a file, and what stands above agrees with its parts whatever they become.
pub record IsSite (f : FileTree) (m : Member TypeTree) : Type 0 where
  pub path : List ℕ
  pub stood : Tree
  pub category : Category
  pub at_path : subtree_at path (view f.root) ≡ Some stood
  pub asked : asked_at categories.File path (view f.root) ≡ Some category
  pub list : Items
  pub statements : AreStatements list
  pub front : ℕ
  pub others : ℕ
  pub is_list : items_at front (rule (place_of category) (kind_of stood)) ≡ Some list
  pub has : has_run front others (parts stood) ≡ true
  pub place : run_range front others (parts stood) ≡ range (m.first + m.from) (m.first + m.upto)
  pub clear : (new : Trees) → is_clear path (items front others new) (view f.root) ≡ true

-- There is such a file, in the tree of which the member stands so.
pub record HasSite (c : Content) (m : Member TypeTree) : Type 0 where
  pub file : FileTree
  pub there : slice_get c.files (file_of (sources_of c) m) ≡ Some file
  pub site : IsSite file m

-- ---- holes

-- A hole of a member is an expression below the node that lists the member's statements, and what stands above agrees with its parts
-- whatever it becomes.
pub record IsHoleSite (c : Category) (tree : Tree) (m : Member TypeTree) (h : Hole TypeTree) : Type 0 where
  pub statement : ℕ
  pub part : ℕ
  pub path : List ℕ
  pub stood : Tree
  pub category : Category
  pub at_path : subtree_at (statement ∷ part ∷ path) tree ≡ Some stood
  pub asked : asked_at c (statement ∷ part ∷ path) tree ≡ Some category
  pub takes : takes_level level.Primary category ≡ true
  pub expression : is_expression (kind_of stood) ≡ true
  pub begins : first stood ≡ m.first + h.from
  pub ends : last stood ≡ m.first + h.upto
  pub clear : (new : Tree) → is_clear (statement ∷ part ∷ path) (whole new) tree ≡ true

-- Holes lie one behind the other from i up to j, and each has a token.
abbrev pub HolesLie : ℕ → List (Hole TypeTree) → ℕ → Type 0
HolesLie i [] j = i ≤ j
HolesLie i (h ∷ hs) j = (i ≤ h.from) × (h.from < h.upto) × HolesLie h.upto hs j

-- So do the holes of the template, below the node of its statements.
pub record HasHoles (c : Content) (t : Member TypeTree) : Type 0 where
  pub site : HasSite c t
  pub holes_at : (n : ℕ) (h : Hole TypeTree) → slice_get (holes t) n ≡ Some h → IsHoleSite site.site.category site.site.stood t h
  pub apart : HolesLie t.from (holes t) t.upto

-- All members of windows stand so.
abbrev pub HaveSites : Content → List Window → Type 0
HaveSites c ws = AllByRecursion (HasSite c) (members_of c ws)
