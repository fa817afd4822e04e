use Rattle.go_stmts.proofs.Sources.{less_than_two, more_than_two}
use Rattle.go_stmts.proofs.leaving.part_source.Goals as goal

pub returns-in_default : goal.returns-in_default
returns-in_default c = less_than_two c.args.parts.now _ c.in_default.len_below

pub returns-in_default-4 : goal.returns-in_default-4
returns-in_default-4 c = more_than_two c.args.parts.now _ c.in_default.len_at_least
