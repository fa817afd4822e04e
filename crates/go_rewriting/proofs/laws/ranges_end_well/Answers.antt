use Rattle.go_rewriting.proofs.Items.{range_ends}
use Rattle.go_rewriting.proofs.laws.ranges_end_well.Goals as goal

pub returns : goal.returns
returns c = range_ends
