use Rattle.go_stmts_variables.proofs.Unsteady.{tags_need_steady_types}
use Rattle.go_stmts_variables.proofs.laws.tags_need_steady_types.Goals as goal

pub returns : goal.returns
returns c = tags_need_steady_types
