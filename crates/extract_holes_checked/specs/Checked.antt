-- The template of an extraction from a package that type-checks has its holes in the tree of its file.
use Rattle.std.specs.Prelude.{◌≡◌, ◌≤◌, Some, List, [], ◌∷◌, map}
use Rattle.go_base.specs.Package.{most_bytes, total_bytes}
use Rattle.go_types.specs.Trees.{TypeTree}
use Rattle.go_typed.specs.declared.window.Window.{Window}
use Rattle.go_typed.specs.Contents.{FuncContent, content}
use Rattle.go_typed.specs.Packages.{PackageView}
use Rattle.go_package_defs.specs.Checked.{IsCheckedPackage, texts_of}
use Rattle.go_package_defs.specs.Sources.{source_of}
use Rattle.param_choose.specs.Members.{Member, template_of}
use Rattle.go_stmts_final_types.specs.Known.{IsKnown}
use Rattle.go_stmts_final_types.specs.PackageNames.{PackageIsNamed}
use Rattle.go_stmts_callees.specs.Callees.{AllCallNoConstant}
use Rattle.extract_rewrite_files.specs.Sites.{HasHoles}
use Rattle.extract_rewrite_checked.specs.Checked.{HasStatement}

-- what the nodes of all functions stand for is known
abbrev pub AllKnown : List FuncContent → Type 0
AllKnown [] = Unit {0}
AllKnown (f ∷ fs) = IsKnown f.tree × AllKnown fs

-- The template is the first window, which has a statement. Its holes stand where what the functions' nodes stand for is known and no constant is
-- called.
abbrev pub TemplatesHaveHoles : Type 0
TemplatesHaveHoles = (p : PackageView) (w : Window) (ws : List Window) (t : Member TypeTree) → IsCheckedPackage p → total_bytes (texts_of p) ≤ most_bytes → AllKnown (content p).functions → AllCallNoConstant (content p).functions
    → HasStatement (content p) w → template_of (content p) (w ∷ ws) ≡ Some t → HasHoles (content p) t

-- So they do where the names of the package stand for something known.
abbrev pub NamedTemplatesHaveHoles : Type 0
NamedTemplatesHaveHoles = (p : PackageView) (w : Window) (ws : List Window) (t : Member TypeTree) (h : IsCheckedPackage p) → total_bytes (texts_of p) ≤ most_bytes → PackageIsNamed (map source_of h.checked.files)
    → HasStatement (content p) w → template_of (content p) (w ∷ ws) ≡ Some t → HasHoles (content p) t
