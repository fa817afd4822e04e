use Rattle.extract_names.proofs.CopyNames.{holes_mean}
use Rattle.extract_names.proofs.laws.names_in_place_of_holes_are_parameters.Goals as goal

pub returns : goal.returns
returns c a new outer d copy h k n = holes_mean a new outer d copy h k n
