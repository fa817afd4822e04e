use Rattle.extract_names.proofs.CopyDeclares.{some_new}
use Rattle.extract_names.proofs.laws.copied_assignments_declare_new_names.Goals as goal

pub returns : goal.returns
returns c a new outer d copy e = some_new a new outer d copy e
