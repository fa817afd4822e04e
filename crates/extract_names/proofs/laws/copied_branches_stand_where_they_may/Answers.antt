use Rattle.extract_names.proofs.CopiedRules.{branches_stay}
use Rattle.extract_names.proofs.laws.copied_branches_stand_where_they_may.Goals as goal

pub returns : goal.returns
returns c a new outer d copy e = branches_stay a new outer d copy e
