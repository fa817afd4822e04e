use Rattle.go_package_added.proofs.Surrounding.{functions_stay}
use Rattle.go_package_added.proofs.laws.unchanged_functions_keep_their_types.Goals as goal

pub returns : goal.returns
returns c k ss us h keeps faultless x e s = functions_stay k ss us h keeps faultless c.functions_are_typed_elsewhere.ensures c.trees_spelled_the_same_keep_it.ensures x e s
