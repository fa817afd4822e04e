-- Packages that type-check, under other numbers of declared types.
use Rattle.std.proofs.Common.{sym, subst}
use Rattle.go_typed.specs.Contents.{Content, content, IsPackageOf}
use Rattle.go_typed.specs.Packages.{PackageView}
use Rattle.go_package_defs.specs.Checked.{IsChecked}
use Rattle.go_package_defs.specs.Kept.{StaysChecked}

-- what is one package with another is one with a third that this is one with
abbrev pub Passes : Type 0
Passes = (c d e : Content) → IsPackageOf c d → IsPackageOf d e → IsPackageOf c e

pub stays : Passes → (p q : PackageView) → StaysChecked p q
stays both p q = record {
  good = λ h. (h.given, h.checked);
  renumbered = λ h k e r. record { numbers = k; given = h.given; checked = subst (λ t. IsChecked t h.given) (sym e) h.checked; same = both h.given (content p) (content q) h.same r };
}
