use Rattle.extract_files.proofs.Levels.{deep_files}
use Rattle.extract_files.proofs.laws.files_without_trees_are_deep.Goals as goal

pub returns : goal.returns
returns c = deep_files
