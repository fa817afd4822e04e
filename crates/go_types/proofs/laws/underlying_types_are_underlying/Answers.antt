use Rattle.go_types.proofs.Underlyings.{underlying_itself, one_underlying}
use Rattle.go_types.proofs.laws.underlying_types_are_underlying.Goals as goal

pub returns : goal.returns
returns c = record { itself = underlying_itself; only = one_underlying }
