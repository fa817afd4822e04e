-- Edits that may be done one after the other.
use Rattle.std.specs.Prelude.{◌≡◌, ℕ, ◌-◌, ◌≤◌, List, length, sum_by, Some, None}
use Rattle.std.specs.List.{AllByRecursion}
use Rattle.go_base.specs.declared.bytes.FileText.{FileText}
use Rattle.go_base.specs.Package.{most_bytes, total_bytes}
use Rattle.go_types.specs.Trees.{TypeTree}
use Rattle.go_typed.specs.declared.window.Window.{Window}
use Rattle.go_typed.specs.Contents.{content}
use Rattle.go_typed.specs.Packages.{PackageView}
use Rattle.go_package_defs.specs.Checked.{IsCheckedPackage, texts_of}
use Rattle.edit_apply.specs.declared.edits.Edit.{Edit}
use Rattle.edit_apply.specs.Applied.{IsInRange, Descends}
use Rattle.param_choose.specs.Members.{Member, template_of}
use Rattle.escape_check.specs.Refusals.{refused}
use Rattle.extract_rewrite.specs.Edits.{edits}

-- The edits lie in their files, and those of one file go from its end to its start and don't overlap.
pub record CanBeDone (files : List FileText) (es : List Edit) : Type 0 where
  pub ranges : AllByRecursion (IsInRange files) es
  pub descends : Descends es

-- The edits that take windows of a package that type-checks out into a function may be done one after the other, where no code from 3
-- to 16 applies to the windows.
abbrev pub EditsCanBeDone : Type 0
EditsCanBeDone = (p : PackageView) (name : List ℕ) (ws : List Window) (t : Member TypeTree) → IsCheckedPackage p → total_bytes (texts_of p) ≤ most_bytes → template_of (content p) ws ≡ Some t → refused (content p) name ws ≡ None
    → CanBeDone (texts_of p) (edits (content p) name ws)

-- how many bytes the texts of edits have, and their ranges
abbrev pub added_bytes : List Edit → ℕ
added_bytes es = sum_by (λ e. length e.text) es

abbrev pub removed_bytes : List Edit → ℕ
removed_bytes es = sum_by (λ e. e.end - e.start) es
