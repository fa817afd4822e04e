use Rattle.extract_names.proofs.CopyAsked.{calls_stay}
use Rattle.extract_names.proofs.laws.copied_members_of_imports_stay_called.Goals as goal

pub returns : goal.returns
returns c a new outer d copy free e = calls_stay a new outer d copy free e
