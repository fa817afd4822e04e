use Rattle.extract_names_derived.proofs.Split.{splits}
use Rattle.extract_names_derived.proofs.laws.runs_split_functions.Goals as goal

pub returns : goal.returns
returns c = splits c.lists_tell_each_statement.ensures c.replaced_runs_tell.ensures
