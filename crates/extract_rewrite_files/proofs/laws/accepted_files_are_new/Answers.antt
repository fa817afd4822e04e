use Rattle.extract_rewrite_files.proofs.Accepted.{accepted_files_are_new}
use Rattle.extract_rewrite_files.proofs.laws.accepted_files_are_new.Goals as goal

pub returns : goal.returns
returns c = accepted_files_are_new c.files_become_new.ensures c.new_files_have_trees.ensures
