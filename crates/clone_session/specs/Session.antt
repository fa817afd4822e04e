-- What a session holds: the present texts, and what the check says of them, where it was asked.
use Rattle.std.specs.Prelude.{◌≡◌, ℕ, ◌≤◌, List, length, Option, Some, None}
use Rattle.go_base.specs.declared.bytes.FileText.{FileText}
use Rattle.go_base.specs.declared.fault.Fault.{Fault}
use Rattle.go_scopes.specs.Views.{failure_of}
use Rattle.go_typed.specs.declared.window.Window.{Window}
use Rattle.go_typed.specs.Packages.{PackageView}
use Rattle.go_package_defs.specs.Checked.{IsReported, IsCheckedPackage, texts_of}
use Rattle.clone_window.specs.declared.bounds.Bounds.{Bounds}
use Rattle.clone_window.specs.Bodies.{bodies_of}
use Rattle.clone_classes.specs.Listing.{windows_of_all}
use Rattle.window_index.specs.Fitting.{IndexView}
use Rattle.window_index.specs.Holding.{HoldsPackage}
use Rattle.clone_session.specs.declared.verdict.Verdict.{Verdict}
use Rattle.clone_session.specs.declared.verdict.Verdict.TheVariants as verdict

-- The texts, which runs of statements are windows, and the verdict; none where the texts changed since the last one.
pub record SessionView : Type 0 where
  pub texts : List FileText
  pub bounds : Bounds
  pub verdict : Option Verdict

-- from 1 to 32 statements, and a mass from 1 to 1000
pub record AreBounds (b : Bounds) : Type 0 where
  pub some : 1 ≤ b.fewest
  pub at_most : b.fewest ≤ 32
  pub heavy : 1 ≤ b.least
  pub light : b.least ≤ 1000

-- The verdict is that of the texts: with its types the package is this, or this fault is reported.
abbrev pub IsOf : List FileText → Verdict → Type 0
IsOf texts (verdict.Good p) = IsCheckedPackage p × (texts_of p ≡ texts)
IsOf texts (verdict.Faulty f) = IsReported texts (failure_of f)

-- it type-checks
abbrev pub IsGoodVerdict : Option Verdict → Type 0
IsGoodVerdict (Some (verdict.Good p)) = Unit {0}
IsGoodVerdict (Some (verdict.Faulty f)) = ⊥
IsGoodVerdict None = ⊥

-- the fault, if there is one
abbrev pub fault_in : Option Verdict → Option Fault
fault_in (Some (verdict.Good p)) = None
fault_in (Some (verdict.Faulty f)) = Some f
fault_in None = None

-- There is an index exactly where the package type-checks. It is by these bounds, and holds exactly the windows of the package, each
-- once and under its number.
abbrev pub IsIndexed : {H : Type 0} → (H → PackageView → Window → ℕ) → Bounds → Option Verdict → Option (IndexView H) → Type 0
IsIndexed number bounds (Some (verdict.Good p)) (Some i) = HoldsPackage number p i × (i.bounds ≡ bounds)
IsIndexed number bounds (Some (verdict.Good p)) None = ⊥
IsIndexed number bounds (Some (verdict.Faulty f)) i = i ≡ None
IsIndexed number bounds None i = i ≡ None

-- how many windows the package has; none where a fault is reported
abbrev pub window_count : Bounds → Option Verdict → ℕ
window_count bounds (Some (verdict.Good p)) = length (windows_of_all bounds 0 (bodies_of p.functions))
window_count bounds (Some (verdict.Faulty f)) = 0
window_count bounds None = 0

-- how many windows go into an index where the first verdict becomes the second: all of them, unless the first is that of the texts
abbrev pub windows_entered : Bounds → Option Verdict → Option Verdict → ℕ
windows_entered bounds (Some v) after = 0
windows_entered bounds None after = window_count bounds after
