use Rattle.extract_files.proofs.Functions.{extracted_functions_stand}
use Rattle.extract_files.proofs.laws.extracted_functions_stand.Goals as goal

pub returns : goal.returns
returns c = extracted_functions_stand c.functions_stand.ensures c.templates_stand.ensures
