use Rattle.extract_names.proofs.CopyAsked.{undeclared_stay}
use Rattle.extract_names.proofs.laws.copied_names_stay_declared.Goals as goal

pub returns : goal.returns
returns c a new outer d copy free e = undeclared_stay a new outer d copy free e
