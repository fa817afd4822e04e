use Rattle.go_heads_types.proofs.Rights.{rights_added}
use Rattle.go_heads_types.proofs.laws.functions_add_right_sides.Goals as goal

pub returns : goal.returns
returns c p a rights n d b e = rights_added p a rights n d b e
