use Rattle.go_heads_added.proofs.Tells.{function_of}
use Rattle.go_heads_added.proofs.laws.empty_functions_tell_of_themselves.Goals as goal

pub returns : goal.returns
returns c ts n end i j a b s ps h l = function_of ts n end i j a b s ps h l
