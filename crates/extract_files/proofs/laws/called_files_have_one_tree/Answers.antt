use Rattle.extract_files.proofs.Levels.{one_tree}
use Rattle.extract_files.proofs.laws.called_files_have_one_tree.Goals as goal

pub returns : goal.returns
returns c = one_tree c.called_files_are_rewritten.ensures c.rewritten_text.ensures
