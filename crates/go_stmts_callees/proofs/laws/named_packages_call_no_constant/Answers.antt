use Rattle.go_stmts_callees.proofs.Packages.{package_free}
use Rattle.go_stmts_callees.proofs.laws.named_packages_call_no_constant.Goals as goal

pub returns : goal.returns
returns g p h k = package_free g.derivations_are_shaped.ensures.based p h k
