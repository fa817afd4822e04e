-- The maximal classes and the covered statements of a package follow from its bytes.
use Rattle.std.proofs.Common.{◌≡◌, ◌∙◌, ℕ, List, map, ap}
use Rattle.std.specs.Prelude.{nat_eq}
use Rattle.go_base.specs.declared.bytes.FileText.{FileText}
use Rattle.go_types.specs.Tables.{IsTable}
use Rattle.go_types_relations.specs.Identity.{is_identical}
use Rattle.go_typed.specs.declared.window.Window.{Window}
use Rattle.go_typed.specs.Contents.{Content, content, IsPackageOf}
use Rattle.go_typed.specs.Packages.{PackageView, IsPackage}
use Rattle.go_package_defs.specs.Checked.{IsChecked, IsCheckedPackage, texts_of}
use Rattle.go_package_defs.specs.Single.{HasOneAnswer}
use Rattle.clone_window.specs.declared.bounds.Bounds.{Bounds}
use Rattle.clone_window.specs.Bodies.{bodies_of}
use Rattle.clone_window.specs.Fields.{field_by}
use Rattle.clone_report.specs.Covered.{coverage}
use Rattle.clone_replies.specs.Classes.{body_in, listed_package}
use Rattle.clone_replies.specs.Maximal.{maximal_by, maximal_reply}
use Rattle.clone_replies.proofs.Public.{OfFiles, same-sources}
use Rattle.clone_session.proofs.Spans.{same-coverage, same-report}

-- what is known of packages and their files
pub record OfReports : Type 0 where
  pub covered : (classes : List (List Window)) (p : PackageView) (c : Content) (file : ℕ) → IsPackageOf c (content p) → coverage classes p.files (bodies_of p.functions) file ≡ coverage classes c.files (map body_in c.functions) file
  pub reply : (bounds : Bounds) (p : PackageView) (c : Content) → IsPackage p → IsTable p.types → IsPackageOf c (content p) → maximal_by nat_eq bounds (listed_package p) ≡ maximal_reply bounds c
  pub one : (texts : List FileText) → HasOneAnswer texts
  pub files : OfFiles

pub one-report : OfReports → (bounds : Bounds) (texts : List FileText) (c d : Content) → IsChecked texts c → IsChecked texts d → maximal_reply bounds c ≡ maximal_reply bounds d
one-report law bounds texts c d h k =
    same-report c.names (field_by c.rights) (map body_in c.functions) c.files d.files (same-sources law.files texts c d h k) is_identical bounds
    ∙ ap (maximal_reply bounds) ((law.one texts).content c d h k)

pub report-follows : OfReports → (bounds : Bounds) (p : PackageView) (c : Content) → IsCheckedPackage p → IsTable p.types → IsChecked (texts_of p) c → maximal_by nat_eq bounds (listed_package p) ≡ maximal_reply bounds c
report-follows law bounds p c h table k = law.reply bounds p h.given h.numbers table h.same ∙ one-report law bounds (texts_of p) h.given c h.checked k

-- ---- covered statements

abbrev counts-of : List (List Window) → ℕ → Content → ℕ × ℕ
counts-of classes file c = coverage classes c.files (map body_in c.functions) file

one-coverage : OfReports → (classes : List (List Window)) (file : ℕ) (texts : List FileText) (c d : Content) → IsChecked texts c → IsChecked texts d → counts-of classes file c ≡ counts-of classes file d
one-coverage law classes file texts c d h k =
    same-coverage c.names (field_by c.rights) (map body_in c.functions) c.files d.files (same-sources law.files texts c d h k) classes file
    ∙ ap (counts-of classes file) ((law.one texts).content c d h k)

pub covered-follows : OfReports → (classes : List (List Window)) (p : PackageView) (c : Content) (file : ℕ) → IsCheckedPackage p → IsChecked (texts_of p) c →
    coverage classes p.files (bodies_of p.functions) file ≡ coverage classes c.files (map body_in c.functions) file
covered-follows law classes p c file h k = law.covered classes p h.given file h.same ∙ one-coverage law classes file (texts_of p) h.given c h.checked k
