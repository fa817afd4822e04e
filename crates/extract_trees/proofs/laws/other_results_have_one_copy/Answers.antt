use Rattle.extract_trees.proofs.Results.{other_results}
use Rattle.extract_trees.proofs.laws.other_results_have_one_copy.Goals as goal

pub returns : goal.returns
returns c = other_results
