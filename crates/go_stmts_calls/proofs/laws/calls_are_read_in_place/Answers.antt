use Rattle.go_stmts_calls.proofs.Facts.{read_in_place}
use Rattle.go_stmts_calls.proofs.laws.calls_are_read_in_place.Goals as goal

pub returns : goal.returns
returns c = read_in_place c.frames_stay_related_behind_statements.ensures.shared
