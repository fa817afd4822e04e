use Rattle.extract_names_holes.proofs.Typeless.{no_type}
use Rattle.extract_names_holes.proofs.laws.holes_are_no_types.Goals as goal

pub returns : goal.returns
returns c = no_type
