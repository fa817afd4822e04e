use Rattle.extract_names_holes.proofs.Edges.{spots_stay}
use Rattle.extract_names_holes.proofs.laws.replaced_names_stay_apart.Goals as goal

pub returns : goal.returns
returns c = spots_stay c.subtrees_stand.ensures
