use Rattle.go_package_scopes.proofs.Named.{package_named}
use Rattle.go_package_scopes.proofs.laws.names_of_checked_packages_are_in_scope.Goals as goal

pub returns : goal.returns
returns c p h =
    package_named (λ ts x b t d. c.derivations_are_shaped.ensures.based ts x b t d) (λ s k t. c.names_stand_where_they_are_meant.ensures s k t) (λ ss f. c.faultless_packages_are_resolved.ensures ss f) p h
