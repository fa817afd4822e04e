use Rattle.go_types.proofs.Defining.{defined_underlying}
use Rattle.go_types.proofs.laws.definitions_give_underlying_types.Goals as goal

pub returns : goal.returns
returns c = defined_underlying
