use Rattle.go_stmts_elsewhere.proofs.Clauses.{list_read}
use Rattle.go_stmts_elsewhere.proofs.laws.lists_are_read_alone.Goals as goal

pub returns : goal.returns
returns c k w s h all xs fs ts = list_read k w s h all xs fs ts
