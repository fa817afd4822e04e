use Rattle.std.proofs.Common.{length}
use Rattle.go_stmts_rules.proofs.Fronts.{rest_is, rest_known}
use Rattle.go_stmts_rules.proofs.nodes.behind.Goals as goal

pub returns-clause-nodes : goal.returns-clause-nodes
returns-clause-nodes c = rest_is c.args.types.now c.args.nodes.now c.args.count c.min.result c.min.ensures

pub returns-clause-known : goal.returns-clause-known
returns-clause-known c = rest_known (length c.args.types.now.shapes) c.args.nodes.now c.min.result c.requires
