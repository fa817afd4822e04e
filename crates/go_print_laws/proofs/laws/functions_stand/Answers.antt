use Rattle.go_print_laws.proofs.Functioned.{functions_stand}
use Rattle.go_print_laws.proofs.laws.functions_stand.Goals as goal

pub returns : goal.returns
returns c = functions_stand c.rewritten_tokens.ensures c.run_stands_elsewhere.ensures
