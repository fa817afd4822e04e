use Rattle.std.proofs.Common.{sym}
use Rattle.go_types.specs.Tables.{type_of}
use Rattle.escape_check.proofs.Called.{row_not_empty}
use Rattle.escape_check.proofs.lost.is_empty.Goals as goal

pub returns-in-len1-up : goal.returns-in-len1-up
returns-in-len1-up c = sym (row_not_empty (type_of c.args._types.now.shapes) c.args.types.now c.in-len1-up.len_at_least)
