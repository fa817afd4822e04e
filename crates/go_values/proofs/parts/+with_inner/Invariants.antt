use Rattle.std.proofs.Common.{length}
use Rattle.go_values.proofs.parts.+with_inner.Given as goal

abbrev pub decreases-with_inner : goal.decreases-with_inner
decreases-with_inner l = length l.path.now
