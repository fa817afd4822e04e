use Rattle.go_heads.proofs.HeadBodies.{functions_tell}
use Rattle.go_heads.proofs.laws.functions_tell_by_themselves.Goals as goal

pub returns : goal.returns
returns c = functions_tell
