use Rattle.extract_names_holes.proofs.Placed.{replaces}
use Rattle.extract_names_holes.proofs.laws.names_stand_in_place.Goals as goal

pub returns : goal.returns
returns c = replaces
