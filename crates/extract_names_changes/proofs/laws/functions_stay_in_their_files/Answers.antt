use Rattle.extract_names_changes.proofs.Numbers.{files_same}
use Rattle.extract_names_changes.proofs.laws.functions_stay_in_their_files.Goals as goal

pub returns : goal.returns
returns c = files_same c.functions_keep_their_numbers.ensures 0
