use Rattle.std.proofs.Common.{map}
use Rattle.go_tree.specs.Uses.{uses}
use Rattle.go_package_defs.specs.Answer.{specifications}
use Rattle.go_package_defs.specs.Knowledge.{outlines}
use Rattle.go_package_defs.specs.Sources.{package_of, unit_of}
use Rattle.go_package_settled.specs.Resolved.{declared_in}
use Rattle.go_package_settled.proofs.Resolving.{are_needing}
use Rattle.go_package_settled.proofs.laws.resolved_packages_settle.Goals as goal

pub returns : goal.returns
returns c ss r t =
    let us = map unit_of ss in
    let p = package_of ss (uses us) in
    c.declared_packages_settle.ensures p (outlines p (specifications 0 ss)) (declared_in us) (are_needing ss r t)
