use Rattle.go_types.proofs.Counting.{one_count}
use Rattle.go_types.proofs.laws.types_have_one_count.Goals as goal

pub returns : goal.returns
returns c = one_count
