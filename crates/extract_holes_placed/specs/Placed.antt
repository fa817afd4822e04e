-- The holes of the template stand below the node of its statements (Go specification: Constant expressions).
use Rattle.std.specs.Prelude.{◌≡◌, ◌∷◌, List, Some, slice_get}
use Rattle.go_types.specs.Trees.{TypeTree}
use Rattle.go_typed.specs.declared.window.Window.{Window}
use Rattle.go_typed.specs.Contents.{Content, FuncContent}
use Rattle.go_typed.specs.Windows.{Range}
use Rattle.clone_window.specs.Spans.{range_over}
use Rattle.clone_window.specs.Windows.{window_statements}
use Rattle.param_choose.specs.Members.{Member, template_of}
use Rattle.go_function_trees.specs.Functions.{WindowStands}
use Rattle.go_function_holes.specs.Holes.{HolesStand}
use Rattle.extract_rewrite_files.specs.Sites.{HasHoles}

-- The template is the first window, which has a statement and stands in the tree of its file. Where its holes stand below the node of its
-- statements, and apart, they have sites.
abbrev pub TemplateHolesHaveSites : Type 0
TemplateHolesHaveSites = (c : Content) (w : Window) (ws : List Window) (t : Member TypeTree) (f : FuncContent) (r : Range) (s : WindowStands c w f r) → slice_get c.functions w.func ≡ Some f
    → range_over (window_statements f.tree w) ≡ Some r → template_of c (w ∷ ws) ≡ Some t → HolesStand c w f r s → HasHoles c t
