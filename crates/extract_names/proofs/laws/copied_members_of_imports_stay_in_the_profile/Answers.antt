use Rattle.extract_names.proofs.CopyAsked.{members_outside_stay}
use Rattle.extract_names.proofs.laws.copied_members_of_imports_stay_in_the_profile.Goals as goal

pub returns : goal.returns
returns c a new outer d copy free e = members_outside_stay a new outer d copy free e
