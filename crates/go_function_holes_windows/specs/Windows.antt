-- Where the holes of a window stand in the tree of its file (Go specification: Statement lists, Constant expressions).
use Rattle.std.specs.Prelude.{◌≡◌, ℕ, true, false, Some, slice_get}
use Rattle.go_types.specs.Trees.{TypeTree}
use Rattle.go_typed.specs.declared.window.Window.{Window}
use Rattle.go_typed.specs.Contents.{Content, FuncContent}
use Rattle.go_typed.specs.Windows.{Range}
use Rattle.clone_window.specs.Spans.{range_over}
use Rattle.clone_window.specs.Windows.{window_statements}
use Rattle.param_choose.specs.Holes.{Hole, holes_among}
use Rattle.go_stmts_final_types.specs.Known.{IsKnown}
use Rattle.go_function_trees.specs.Functions.{WindowStands}
use Rattle.go_function_holes.specs.Holes.{HoleOfWindow, calls_no_constant}

-- Each hole of a window stands in one of its statements, where what the nodes of its function stand for is known and no constant is called.
abbrev pub WindowHolesStand : Type 0
WindowHolesStand = (c : Content) (w : Window) (f : FuncContent) (r : Range) (s : WindowStands c w f r) → range_over (window_statements f.tree w) ≡ Some r → IsKnown f.tree → calls_no_constant f.tree ≡ true
    → (n : ℕ) (h : Hole TypeTree) → slice_get (holes_among 0 false (window_statements f.tree w)) n ≡ Some h → HoleOfWindow c w f r s h
