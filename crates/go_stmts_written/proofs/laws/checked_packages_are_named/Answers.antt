use Rattle.go_stmts_written.proofs.Packages.{packages_named}
use Rattle.go_stmts_written.proofs.laws.checked_packages_are_named.Goals as goal

pub returns : goal.returns
returns c = λ p h. packages_named c.names_are_names.ensures p h
