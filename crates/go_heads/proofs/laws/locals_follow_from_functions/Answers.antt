use Rattle.go_heads.proofs.Locals.{locals_follow}
use Rattle.go_heads.proofs.laws.locals_follow_from_functions.Goals as goal

pub returns : goal.returns
returns c = locals_follow
