use Rattle.extract_rewrite.proofs.Descending.{edits_apply}
use Rattle.extract_rewrite.proofs.laws.edits_apply.Goals as goal

pub returns : goal.returns
returns c = edits_apply
