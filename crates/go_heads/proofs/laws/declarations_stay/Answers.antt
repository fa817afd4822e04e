use Rattle.go_heads.proofs.Declarations.{declarations_same}
use Rattle.go_heads.proofs.laws.declarations_stay.Goals as goal

pub returns : goal.returns
returns c = declarations_same
