use Rattle.extract_names_changes.proofs.Imported.{copy_names}
use Rattle.extract_names_changes.proofs.laws.copied_imports_are_used.Goals as goal

pub returns : goal.returns
returns c = copy_names c.copies_are_faultless.ensures
