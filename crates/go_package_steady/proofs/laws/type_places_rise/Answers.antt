use Rattle.go_package_steady.proofs.Lying.{type_places_rise}
use Rattle.go_package_steady.proofs.laws.type_places_rise.Goals as goal

pub returns : goal.returns
returns c ts x t derives = type_places_rise c.parts_lie_in_order.ensures ts x t derives
