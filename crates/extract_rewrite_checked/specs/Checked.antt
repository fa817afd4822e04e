-- Windows of a package that type-checks.
use Rattle.std.specs.Prelude.{◌≡◌, ◌≤◌, Some, List, slice_get}
use Rattle.std.specs.List.{AllByRecursion}
use Rattle.go_base.specs.Package.{most_bytes, total_bytes}
use Rattle.go_typed.specs.declared.window.Window.{Window}
use Rattle.go_typed.specs.Contents.{Content, FuncContent, content}
use Rattle.go_typed.specs.Packages.{PackageView}
use Rattle.go_typed.specs.Windows.{Range}
use Rattle.go_package_defs.specs.Checked.{IsCheckedPackage, texts_of}
use Rattle.clone_window.specs.Spans.{range_over}
use Rattle.clone_window.specs.Windows.{window_statements}
use Rattle.extract_rewrite_files.specs.Sites.{HaveSites}

-- A window of a function of the package, which has a statement.
pub record HasStatement (c : Content) (w : Window) : Type 0 where
  pub function : FuncContent
  pub there : slice_get c.functions w.func ≡ Some function
  pub range : Range
  pub is_range : range_over (window_statements function.tree w) ≡ Some range

-- Windows with statements stand in the trees of their files.
abbrev pub WindowsHaveSites : Type 0
WindowsHaveSites = (p : PackageView) (ws : List Window) → IsCheckedPackage p → total_bytes (texts_of p) ≤ most_bytes → AllByRecursion (HasStatement (content p)) ws → HaveSites (content p) ws
