use Rattle.extract_names_derived.proofs.News.{runs_stand}
use Rattle.extract_names_derived.proofs.laws.runs_are_statements.Goals as goal

pub returns : goal.returns
returns c = runs_stand
