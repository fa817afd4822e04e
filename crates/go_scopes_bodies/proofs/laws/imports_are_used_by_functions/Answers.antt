use Rattle.go_scopes_bodies.proofs.Imported.{imports_by_functions}
use Rattle.go_scopes_bodies.proofs.laws.imports_are_used_by_functions.Goals as goal

pub returns : goal.returns
returns c = imports_by_functions
