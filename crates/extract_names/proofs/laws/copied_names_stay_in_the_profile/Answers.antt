use Rattle.extract_names.proofs.CopyAsked.{outside_stay}
use Rattle.extract_names.proofs.laws.copied_names_stay_in_the_profile.Goals as goal

pub returns : goal.returns
returns c a new outer d copy free e = outside_stay a new outer d copy free e
