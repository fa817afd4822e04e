use Rattle.extract_rewrite_checked.proofs.Extracted.{extracted_files_are_new}
use Rattle.extract_rewrite_checked.proofs.laws.extracted_files_are_new.Goals as goal

pub returns : goal.returns
returns c =
    extracted_files_are_new c.windows_have_sites.ensures c.functions_can_be_written.ensures c.calls_can_be_written.ensures c.functions_stand_behind.ensures c.signatures_are_shallow.ensures c.accepted_files_are_new.ensures
