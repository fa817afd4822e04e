use Rattle.go_heads.proofs.Locals.{locals_same}
use Rattle.go_heads.proofs.laws.locals_stay.Goals as goal

pub returns : goal.returns
returns c old new h i x y e k f g s t same = locals_same old new h i x y (c.functions_keep_their_numbers.ensures old new h i e) k f g s t same
