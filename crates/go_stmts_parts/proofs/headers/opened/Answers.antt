use Rattle.std.proofs.Common.{sym}
use Rattle.go_stmts_parts.proofs.Counting.{opened_is}
use Rattle.go_stmts_parts.proofs.headers.opened.Goals as goal

pub returns-clause-parts : goal.returns-clause-parts
returns-clause-parts c = sym (opened_is c.args.types.now c.args.node)
