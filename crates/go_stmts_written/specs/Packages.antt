-- Packages that type-check.
use Rattle.go_typed.specs.Contents.{content}
use Rattle.go_typed.specs.Packages.{PackageView}
use Rattle.go_package_defs.specs.Checked.{IsCheckedPackage}
use Rattle.go_stmts_written.specs.Named.{AllFunctionsNamed}

-- In a package that type-checks the types that functions, their locals and their nodes stand for have fields whose names are spelled as
-- names are.
abbrev pub CheckedPackagesAreNamed : Type 0
CheckedPackagesAreNamed = (p : PackageView) → IsCheckedPackage p → AllFunctionsNamed (content p).functions
