use Rattle.extract_names_holes.proofs.Kept.{spots_are_holes}
use Rattle.extract_names_holes.proofs.laws.replaced_names_are_holes.Goals as goal

pub returns : goal.returns
returns c = spots_are_holes
