use Rattle.extract_rewrite_files.proofs.Levels.{files_have_trees}
use Rattle.extract_rewrite_files.proofs.laws.new_files_have_trees.Goals as goal

pub returns : goal.returns
returns c = files_have_trees c.one_lexing.ensures
