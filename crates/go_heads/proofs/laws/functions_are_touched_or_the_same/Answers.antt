use Rattle.go_heads.proofs.Decided.{touched_or_same}
use Rattle.go_heads.proofs.laws.functions_are_touched_or_the_same.Goals as goal

pub returns : goal.returns
returns c old new h k n g there body = touched_or_same old new h k n g there body
