use Rattle.go_heads.proofs.Pairs.{tokens_same}
use Rattle.go_heads.proofs.laws.tokens_keep_their_objects.Goals as goal

pub returns : goal.returns
returns c old new h i p q e k f g s t same = tokens_same old new h i p q e (c.functions_keep_their_numbers.ensures old new h i e) k f g s t same
