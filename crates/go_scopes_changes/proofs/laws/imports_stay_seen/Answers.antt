use Rattle.go_scopes_changes.proofs.Entries.{seen_stays}
use Rattle.go_scopes_changes.proofs.laws.imports_stay_seen.Goals as goal

pub returns : goal.returns
returns c = seen_stays
