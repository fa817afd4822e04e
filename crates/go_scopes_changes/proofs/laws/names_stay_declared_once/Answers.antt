use Rattle.go_scopes_changes.proofs.Entries.{once_stays}
use Rattle.go_scopes_changes.proofs.laws.names_stay_declared_once.Goals as goal

pub returns : goal.returns
returns c = once_stays
