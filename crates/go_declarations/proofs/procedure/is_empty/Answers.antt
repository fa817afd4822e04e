use Rattle.go_types.specs.Tables.{type_of}
use Rattle.go_declarations.proofs.Rows.{row_not_none}
use Rattle.go_declarations.proofs.procedure.is_empty.Goals as goal

pub returns-in-len1-up : goal.returns-in-len1-up
returns-in-len1-up c = row_not_none (type_of c.args._types.now.shapes) c.args.types.now c.in-len1-up.len_at_least
