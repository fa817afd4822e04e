use Rattle.extract_names_derived.proofs.News.{gap_tells}
use Rattle.extract_names_derived.proofs.laws.statements_tell_their_gap.Goals as goal

pub returns : goal.returns
returns c = gap_tells
