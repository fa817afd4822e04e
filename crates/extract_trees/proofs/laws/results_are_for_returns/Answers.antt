use Rattle.extract_trees.proofs.Results.{results_unread}
use Rattle.extract_trees.proofs.laws.results_are_for_returns.Goals as goal

pub returns : goal.returns
returns c = results_unread
