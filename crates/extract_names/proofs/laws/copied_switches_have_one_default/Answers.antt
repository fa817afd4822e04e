use Rattle.extract_names.proofs.CopiedRules.{defaults_once}
use Rattle.extract_names.proofs.laws.copied_switches_have_one_default.Goals as goal

pub returns : goal.returns
returns c a new outer d copy e = defaults_once a new outer d copy e
