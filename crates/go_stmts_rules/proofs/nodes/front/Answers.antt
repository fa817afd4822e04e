use Rattle.std.proofs.Common.{length}
use Rattle.go_stmts_rules.proofs.Fronts.{front_is, front_known}
use Rattle.go_stmts_rules.proofs.nodes.front.Goals as goal

pub returns-clause-nodes : goal.returns-clause-nodes
returns-clause-nodes c = front_is c.args.types.now c.args.nodes.now c.args.count c.min.result c.min.ensures

pub returns-clause-known : goal.returns-clause-known
returns-clause-known c = front_known (length c.args.types.now.shapes) c.args.nodes.now c.min.result c.requires
