use Rattle.std.proofs.Common.{length}
use Rattle.go_stmts_rules.proofs.Fronts.{parts_rest_known}
use Rattle.go_stmts_rules.proofs.nodes.parts_behind.Goals as goal

pub returns-clause-known : goal.returns-clause-known
returns-clause-known c = parts_rest_known (length c.args.types.now.shapes) c.args.parts.now c.min.result c.requires
