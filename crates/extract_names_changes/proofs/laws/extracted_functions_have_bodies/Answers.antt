use Rattle.extract_names_changes.proofs.Bodied.{all_bodied}
use Rattle.extract_names_changes.proofs.laws.extracted_functions_have_bodies.Goals as goal

pub returns : goal.returns
returns c = all_bodied
