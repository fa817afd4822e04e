use Rattle.extract_names.proofs.CopyAsked.{initialisers_stay}
use Rattle.extract_names.proofs.laws.copied_initialisers_stay_outside.Goals as goal

pub returns : goal.returns
returns c a new outer d copy free e = initialisers_stay a new outer d copy free e
