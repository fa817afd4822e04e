use Rattle.go_package_types.proofs.Places.{keeps_least}
use Rattle.go_package_types.proofs.laws.least_keeps_its_place.Goals as goal

pub returns : goal.returns
returns c p n fs rise s = keeps_least p n rise fs s
