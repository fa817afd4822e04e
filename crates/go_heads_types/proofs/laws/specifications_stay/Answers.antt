use Rattle.go_heads_types.proofs.Pairs.{specifications_one}
use Rattle.go_heads_types.proofs.laws.specifications_stay.Goals as goal

pub returns : goal.returns
returns c = specifications_one
