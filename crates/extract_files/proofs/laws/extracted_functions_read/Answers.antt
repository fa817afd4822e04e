use Rattle.extract_files.proofs.Functions.{extracted_functions_read}
use Rattle.extract_files.proofs.laws.extracted_functions_read.Goals as goal

pub returns : goal.returns
returns c = extracted_functions_read c.functions_read.ensures c.templates_stand.ensures
