use Rattle.go_package_scopes.proofs.Led.{package_led}
use Rattle.go_package_scopes.proofs.laws.branches_of_checked_packages_lead_somewhere.Goals as goal

pub returns : goal.returns
returns c p h = package_led (λ ts x b t d. c.derivations_are_shaped.ensures.based ts x b t d) p h
