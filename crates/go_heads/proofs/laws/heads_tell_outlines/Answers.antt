use Rattle.go_heads.proofs.Files.{same_outlines}
use Rattle.go_heads.proofs.laws.heads_tell_outlines.Goals as goal

pub returns : goal.returns
returns c = same_outlines
