use Rattle.go_ints.proofs.Wrapped.{wrapped_in_range, wrapped_congruent, only_wrapped, wrapped_same}
use Rattle.go_ints.proofs.laws.wrapped_values.Goals as goal

pub returns : goal.returns
returns c = record { in_range = wrapped_in_range; multiple = wrapped_congruent; only = only_wrapped; fits = wrapped_same }
