use Rattle.go_types_relations.proofs.Calls.{same_identical}
use Rattle.go_types_relations.proofs.identical.Goals as goal

pub returns : goal.returns
returns c = same_identical c.args.types.now c.args.a c.args.b c.identical.result c.identical.ensures
