use Rattle.go_stmts_variables.proofs.Switchless.{switchless_tagged}
use Rattle.go_stmts_variables.proofs.laws.statements_without_switches_are_tagged.Goals as goal

pub returns : goal.returns
returns c f h x e = switchless_tagged f h x e
