use Rattle.go_stmts_final_types.proofs.Named.{package_final}
use Rattle.go_stmts_final_types.proofs.laws.named_packages_have_types.Goals as goal

pub returns : goal.returns
returns c p h k = package_final p h k
