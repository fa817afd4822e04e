use Rattle.extract_texts.proofs.Enough.{are_enough}
use Rattle.extract_texts.proofs.laws.fresh_names_are_enough.Goals as goal

pub returns : goal.returns
returns c = are_enough
