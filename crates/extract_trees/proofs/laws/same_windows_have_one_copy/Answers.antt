use Rattle.extract_trees.proofs.Copies.{same_windows}
use Rattle.extract_trees.proofs.laws.same_windows_have_one_copy.Goals as goal

pub returns : goal.returns
returns c = same_windows
