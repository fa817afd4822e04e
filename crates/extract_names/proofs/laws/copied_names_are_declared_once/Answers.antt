use Rattle.extract_names.proofs.CopiedRules.{declared_once}
use Rattle.extract_names.proofs.laws.copied_names_are_declared_once.Goals as goal

pub returns : goal.returns
returns c a new outer d copy e = declared_once a new outer d copy e
