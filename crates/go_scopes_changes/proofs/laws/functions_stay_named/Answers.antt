use Rattle.go_scopes_changes.proofs.Named.{names_stay}
use Rattle.go_scopes_changes.proofs.laws.functions_stay_named.Goals as goal

pub returns : goal.returns
returns c = λ old new h k e named. names_stay old new h k (c.functions_keep_their_numbers.ensures old new h k e) named
