use Rattle.go_ints.proofs.Wrapped.{wrapped-add, wrapped-sub, wrapped-mul}
use Rattle.go_ints.proofs.laws.wrapped_arithmetic.Goals as goal

pub returns : goal.returns
returns c = record { sum = wrapped-add; difference = wrapped-sub; product = wrapped-mul }
