use Rattle.go_stmts_elsewhere.proofs.Following.{related_behind, shared_along}
use Rattle.go_stmts_elsewhere.proofs.laws.frames_stay_related_behind_statements.Goals as goal

pub returns : goal.returns
returns c = record { behind = related_behind; shared = shared_along }
