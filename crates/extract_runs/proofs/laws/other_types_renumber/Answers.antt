use Rattle.extract_runs.proofs.OtherTypes.{other_types}
use Rattle.extract_runs.proofs.laws.other_types_renumber.Goals as goal

pub returns : goal.returns
returns c = other_types c.answers_are_renamed.ensures.underlying c.answers_are_renamed.ensures.zero
