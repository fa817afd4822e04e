use Rattle.go_package_scopes.proofs.Shaped.{package_shaped}
use Rattle.go_package_scopes.proofs.laws.functions_of_checked_packages_have_shape.Goals as goal

pub returns : goal.returns
returns c p h = package_shaped (λ ts x b t d. c.derivations_are_shaped.ensures.based ts x b t d) (λ s k i j ps w. c.derived_functions_have_shape.ensures.1 s k i j ps w) p h
