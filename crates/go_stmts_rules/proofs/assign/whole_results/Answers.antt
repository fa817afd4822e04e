use Rattle.go_types.specs.Tables.{rights_of}
use Rattle.go_stmts_rules.proofs.Steps.{no_whole}
use Rattle.go_stmts_rules.proofs.assign.whole_results.Goals as goal

pub returns-in-len2-up-clause-tree : goal.returns-in-len2-up-clause-tree
returns-in-len2-up-clause-tree c = no_whole (rights_of c.args.types.now) c.args.types.now c.args.values.now c.in-len2-up.len_at_least
