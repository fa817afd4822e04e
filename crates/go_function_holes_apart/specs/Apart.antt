-- The holes of windows lie one behind the other (Go specification: Constant expressions).
use Rattle.std.specs.Prelude.{◌≡◌, ℕ, false, Some, slice_get}
use Rattle.go_types.specs.Trees.{TypeTree}
use Rattle.go_typed.specs.declared.window.Window.{Window}
use Rattle.go_typed.specs.Contents.{Content, FuncContent}
use Rattle.go_typed.specs.Windows.{Range}
use Rattle.clone_window.specs.Spans.{range_over}
use Rattle.clone_window.specs.Windows.{window_statements}
use Rattle.param_choose.specs.Holes.{Hole, holes_among}
use Rattle.go_function_trees.specs.Functions.{HasTree, WindowStands}
use Rattle.go_function_holes.specs.Holes.{LieApart, HoleOfWindow, HolesStand}

-- Of a window of a function, which has a declaration in the tree of a file: its holes lie one behind the other among its tokens, and each has
-- one.
abbrev pub WindowHolesLieApart : Content → Type 0
WindowHolesLieApart c = (w : Window) (f : FuncContent) (r : Range) → HasTree c w.func f → range_over (window_statements f.tree w) ≡ Some r → LieApart r.from (holes_among 0 false (window_statements f.tree w)) r.to

-- of each window of each function
abbrev pub HolesLieApart : Content → Type 0
HolesLieApart c = (w : Window) (f : FuncContent) (r : Range) → slice_get c.functions w.func ≡ Some f → range_over (window_statements f.tree w) ≡ Some r → LieApart r.from (holes_among 0 false (window_statements f.tree w)) r.to

-- Where each hole of a window stands in one of its statements, they stand so and lie apart.
abbrev pub HolesStandApart : Type 0
HolesStandApart = (c : Content) (w : Window) (f : FuncContent) (r : Range) (s : WindowStands c w f r) → range_over (window_statements f.tree w) ≡ Some r
    → ((n : ℕ) (h : Hole TypeTree) → slice_get (holes_among 0 false (window_statements f.tree w)) n ≡ Some h → HoleOfWindow c w f r s h) → HolesStand c w f r s
