use Rattle.extract_names.proofs.CopySite.{example_copy}
use Rattle.extract_names.proofs.laws.the_example_is_a_copy.Goals as goal

pub returns : goal.returns
returns c = example_copy
