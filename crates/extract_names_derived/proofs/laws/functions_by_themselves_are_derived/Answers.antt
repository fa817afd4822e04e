use Rattle.extract_names_derived.proofs.Apart.{functions_derived}
use Rattle.extract_names_derived.proofs.laws.functions_by_themselves_are_derived.Goals as goal

pub returns : goal.returns
returns c = functions_derived c.text_stands_elsewhere.ensures
