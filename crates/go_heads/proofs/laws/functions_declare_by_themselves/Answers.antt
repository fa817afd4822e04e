use Rattle.go_heads.proofs.Names.{functions_declare}
use Rattle.go_heads.proofs.laws.functions_declare_by_themselves.Goals as goal

pub returns : goal.returns
returns c = functions_declare
