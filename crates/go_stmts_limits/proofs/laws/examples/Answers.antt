use Rattle.go_stmts_limits.proofs.Examples.{examples}
use Rattle.go_stmts_limits.proofs.laws.examples.Goals as goal

pub returns : goal.returns
returns c = examples
