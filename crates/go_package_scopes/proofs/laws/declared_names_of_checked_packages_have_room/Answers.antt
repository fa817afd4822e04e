use Rattle.go_package_scopes.proofs.LaidRooms.{package_roomed}
use Rattle.go_package_scopes.proofs.laws.declared_names_of_checked_packages_have_room.Goals as goal

pub returns : goal.returns
returns c p h =
    package_roomed (λ ts t f. c.scopes_stand_in_trees.ensures ts t f) (λ ts t f. c.functions_are_told_in_order.ensures ts t f)
    (λ s k t. c.names_stand_where_they_are_meant.ensures s k t) (λ ss f. c.faultless_packages_are_resolved.ensures ss f) p h
