-- Windows of a package that type-checks have sites.
use Rattle.std.proofs.Common.{◌≡◌, ◌∙◌, ◌≤◌, List, [], ◌∷◌, ◌++◌, Option, Some, None, refl, sym, subst}
use Rattle.std.specs.Prelude.{slice_get}
use Rattle.std.specs.List.{AllByRecursion}
use Rattle.std.specs.Option.{option_map, option_to_list}
use Rattle.go_base.specs.Package.{most_bytes, total_bytes}
use Rattle.go_types.specs.Trees.{TypeTree}
use Rattle.go_typed.specs.declared.window.Window.{Window}
use Rattle.go_typed.specs.Contents.{Content, FuncContent, content}
use Rattle.go_typed.specs.Packages.{PackageView}
use Rattle.go_package_defs.specs.Checked.{IsCheckedPackage, texts_of}
use Rattle.clone_window.specs.Spans.{range_over}
use Rattle.clone_window.specs.Windows.{window_statements}
use Rattle.param_choose.specs.Members.{Member, member_over, members_of}
use Rattle.go_function_trees.specs.Functions.{WindowsStand}
use Rattle.extract_rewrite_files.specs.Sites.{HasSite}
use Rattle.extract_rewrite_checked.specs.Checked.{HasStatement, WindowsHaveSites}
use Rattle.extract_rewrite_checked.proofs.Paths.{same_some, site_of}

module _ (c : Content) (stand : WindowsStand c) where
  abbrev over : Window → FuncContent → Member TypeTree
  over w f = member_over c.uses w f.locals f.tokens f.tree

  range_of : (w : Window) (f : FuncContent) (q : HasStatement c w) → slice_get c.functions w.func ≡ Some f → range_over (window_statements f.tree w) ≡ Some q.range
  range_of w f q e = let same = same_some q.function f (sym q.there ∙ e) in subst (λ (g : FuncContent). range_over (window_statements g.tree w) ≡ Some q.range) same q.is_range

  one_site : (w : Window) (f : FuncContent) → HasStatement c w → slice_get c.functions w.func ≡ Some f → HasSite c (over w f)
  one_site w f q e = let r = range_of w f q e in site_of c w f q.range r (stand w f q.range e r)

  one_more : (w : Window) (q : HasStatement c w) (o : Option FuncContent) (ms : List (Member TypeTree)) → slice_get c.functions w.func ≡ o → AllByRecursion (HasSite c) ms
      → AllByRecursion (HasSite c) (option_to_list (option_map (λ f. member_over c.uses w f.locals f.tokens f.tree) o) ++ ms)
  one_more w q None ms e k = k
  one_more w q (Some f) ms e k = (one_site w f q e, k)

  sites : (ws : List Window) → AllByRecursion (HasStatement c) ws → AllByRecursion (HasSite c) (members_of c ws)
  sites [] q = tt
  sites (w ∷ ws) q = one_more w q.0 (slice_get c.functions w.func) (members_of c ws) refl (sites ws q.1)

pub windows_have_sites : ((p : PackageView) → IsCheckedPackage p → total_bytes (texts_of p) ≤ most_bytes → WindowsStand (content p)) → WindowsHaveSites
windows_have_sites law p ws h small q = sites (content p) (law p h small) ws q
