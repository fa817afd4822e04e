-- Packages that the program holds, under other numbers of declared types.
use Rattle.std.specs.Prelude.{◌≡◌}
use Rattle.go_typed.specs.Contents.{content, IsPackageOf}
use Rattle.go_typed.specs.Packages.{PackageView, IsPackage}
use Rattle.go_package_defs.specs.Checked.{IsGood, texts_of, IsCheckedPackage}

-- What the check gives stays so under other numbers of declared types, each its own, and the bytes of such a package are good.
pub record StaysChecked (p q : PackageView) : Type 0 where
  pub good : IsCheckedPackage p → IsGood (texts_of p)
  pub renumbered : IsCheckedPackage p → IsPackage q → texts_of q ≡ texts_of p → IsPackageOf (content p) (content q) → IsCheckedPackage q
