use Rattle.extract_files.proofs.Extracted.{extracted_files}
use Rattle.extract_files.proofs.laws.extracted_files_are_rewritten.Goals as goal

pub returns : goal.returns
returns c = extracted_files c.called_files_are_rewritten.ensures
