use Rattle.go_stmts_variables.proofs.Untyped.{tags_need_types}
use Rattle.go_stmts_variables.proofs.laws.tags_need_types.Goals as goal

pub returns : goal.returns
returns c = tags_need_types
