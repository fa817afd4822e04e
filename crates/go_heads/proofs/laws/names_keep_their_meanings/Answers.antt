use Rattle.go_heads.proofs.Meanings.{meanings_kept}
use Rattle.go_heads.proofs.laws.names_keep_their_meanings.Goals as goal

pub returns : goal.returns
returns c = meanings_kept
