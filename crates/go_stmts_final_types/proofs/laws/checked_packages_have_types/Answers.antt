use Rattle.go_stmts_final_types.proofs.Packages.{package_typed}
use Rattle.go_stmts_final_types.proofs.laws.checked_packages_have_types.Goals as goal

pub returns : goal.returns
returns c p h = package_typed p h
