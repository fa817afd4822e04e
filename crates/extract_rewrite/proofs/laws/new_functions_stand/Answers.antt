use Rattle.extract_rewrite.proofs.Calling.{new_functions_stand}
use Rattle.extract_rewrite.proofs.laws.new_functions_stand.Goals as goal

pub returns : goal.returns
returns c = new_functions_stand c.functions_stand.ensures
