use Rattle.std.proofs.Common.{inl}
use Rattle.go_types.proofs.TreeIdentity.{identical_sym}
use Rattle.go_types.proofs.laws.identical_types_are_assignable.Goals as goal

pub returns : goal.returns
returns c rights t u h = (inl h, inl (identical_sym t u h))
