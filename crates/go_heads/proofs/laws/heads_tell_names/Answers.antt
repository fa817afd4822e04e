use Rattle.go_heads.proofs.Outside.{heads_told}
use Rattle.go_heads.proofs.laws.heads_tell_names.Goals as goal

pub returns : goal.returns
returns c = heads_told
