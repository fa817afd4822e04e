use Rattle.extract_trees.proofs.Partners.{paired_numbers}
use Rattle.extract_trees.proofs.laws.paired_locals_have_one_number.Goals as goal

pub returns : goal.returns
returns c = paired_numbers
