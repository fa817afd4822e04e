use Rattle.extract_names.proofs.CopyDeclares.{variables_used}
use Rattle.extract_names.proofs.laws.copied_variables_are_used.Goals as goal

pub returns : goal.returns
returns c a new outer d copy free = variables_used a new outer d copy free
