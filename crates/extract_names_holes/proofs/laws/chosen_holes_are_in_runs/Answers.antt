use Rattle.extract_names_holes.proofs.Chosen.{chosen_spots}
use Rattle.extract_names_holes.proofs.laws.chosen_holes_are_in_runs.Goals as goal

pub returns : goal.returns
returns c = chosen_spots
