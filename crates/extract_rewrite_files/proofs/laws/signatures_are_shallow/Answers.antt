use Rattle.extract_rewrite_files.proofs.Signatures.{signatures_are_shallow}
use Rattle.extract_rewrite_files.proofs.laws.signatures_are_shallow.Goals as goal

pub returns : goal.returns
returns c = signatures_are_shallow c.files_have_fronts.ensures c.functions_read_behind.ensures c.functions_may_be_appended.ensures c.one_lexing.ensures
