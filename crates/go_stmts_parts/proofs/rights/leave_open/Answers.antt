use Rattle.std.proofs.Common.{refl}
use Rattle.go_stmts_parts.proofs.Placing.{open_rights}
use Rattle.go_stmts_parts.proofs.rights.leave_open.Goals as goal

pub returns-then-is_open : goal.returns-then-is_open
returns-then-is_open c = λ n is. open_rights c.args.types.now c.count.ensures.table c.args.named n (c.if-is_open.ensures.0 refl) is
