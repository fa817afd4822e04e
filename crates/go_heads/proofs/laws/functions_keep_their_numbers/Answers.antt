use Rattle.go_heads.proofs.Numbers.{functions_kept}
use Rattle.go_heads.proofs.laws.functions_keep_their_numbers.Goals as goal

pub returns : goal.returns
returns c = functions_kept
