use Rattle.go_types_relations.proofs.Zeros.{counted_told, zero_counted}
use Rattle.go_types_relations.proofs.laws.counted_types_have_zero_values.Goals as goal

pub returns-clause-zero : goal.returns-clause-zero
returns-clause-zero c = counted_told

pub returns-clause-count : goal.returns-clause-count
returns-clause-count c = zero_counted
