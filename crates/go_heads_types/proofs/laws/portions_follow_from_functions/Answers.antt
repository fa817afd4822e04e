use Rattle.go_heads_types.specs.Portions.{files_of}
use Rattle.go_heads_types.proofs.Portions.{portions_kept}
use Rattle.go_heads_types.proofs.laws.portions_follow_from_functions.Goals as goal

pub returns : goal.returns
returns c p q names others a b h k e = portions_kept p q names others a b (c.functions_keep_their_numbers.ensures (files_of names p.sources) (files_of others q.sources) h k e)
