-- Where the holes of a statement stand in its tree (Go specification: Statements, Constant expressions).
use Rattle.std.specs.Prelude.{◌≡◌, ℕ, Bool, true, false, List, ◌∷◌, Some, slice_get}
use Rattle.go_grammar.specs.declared.kind.Category.{Category}
use Rattle.go_grammar.specs.declared.kind.Category.TheVariants as categories
use Rattle.go_grammar.specs.declared.kind.Level.TheVariants as level
use Rattle.go_grammar.specs.Categories.{is_expression}
use Rattle.go_grammar.specs.Trees.{Tree, kind_of, first, last}
use Rattle.go_rewriting.specs.Replacing.{subtree_at, asked_at, takes_level}
use Rattle.go_rewriting.specs.Sites.{whole, is_clear}
use Rattle.go_types.specs.Trees.{TypeTree}
use Rattle.go_exprs_rules.specs.Scopes.{Hint}
use Rattle.go_stmts_defs.specs.Frames.{Frame}
use Rattle.go_stmts_defs.specs.Reading.{reading}
use Rattle.param_choose.specs.Holes.{Hole, holes_in}
use Rattle.go_stmts_final_types.specs.Known.{IsKnown}
use Rattle.go_stmts_final_types.specs.Shapes.{IsShaped}
use Rattle.go_function_trees.specs.Lists.{Faultless, tree_in, found_in}
use Rattle.go_function_holes.specs.Holes.{calls_no_constant}
use Rattle.go_function_holes.specs.Ways.{may_be_named}

-- A path of one part at least leads from the statement to an expression over these tokens. A name may stand in its place.
pub record StatementHole (t : Tree) (from upto : ℕ) : Type 0 where
  pub part : ℕ
  pub path : List ℕ
  pub stood : Tree
  pub category : Category
  pub at_path : subtree_at (part ∷ path) t ≡ Some stood
  pub asked : asked_at categories.Statement (part ∷ path) t ≡ Some category
  pub takes : takes_level level.Primary category ≡ true
  pub expression : is_expression (kind_of stood) ≡ true
  pub begins : first stood ≡ from
  pub ends : last stood ≡ upto
  pub clear : (new : Tree) → is_clear (part ∷ path) (whole new) t ≡ true
  pub named : may_be_named false (part ∷ path) t ≡ true

-- Each hole of a statement in which no rule fails is such an expression, whatever is known in front of the statement.
abbrev pub StatementHolesStand : Type 0
StatementHolesStand = (s : Frame) (h : Hint) (t : Tree) → IsShaped categories.Statement t → Faultless (found_in (reading s h t)) → IsKnown (tree_in (reading s h t)) → calls_no_constant (tree_in (reading s h t)) ≡ true
    → (k n : ℕ) (inside : Bool) (hole : Hole TypeTree) → slice_get (holes_in k inside (tree_in (reading s h t))) n ≡ Some hole → StatementHole t hole.from hole.upto
