use Rattle.std.proofs.Common.{sym}
use Rattle.go_types.specs.Tables.{type_of}
use Rattle.go_exprs_calls.proofs.Counts.{called_many}
use Rattle.go_exprs_calls.proofs.functions.called.Goals as goal

pub returns-in-len2-up-clause-tree : goal.returns-in-len2-up-clause-tree
returns-in-len2-up-clause-tree c = let t = c.args.types.now in sym (called_many (type_of t.shapes c.args.of) (type_of t.shapes) c.args.results.now c.in-len2-up.len_at_least)
