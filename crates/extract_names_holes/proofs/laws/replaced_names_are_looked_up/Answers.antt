use Rattle.extract_names_holes.proofs.Looked.{spots_look}
use Rattle.extract_names_holes.proofs.laws.replaced_names_are_looked_up.Goals as goal

pub returns : goal.returns
returns c = spots_look c.subtrees_stand.ensures
