use Rattle.go_heads.proofs.Objects.{objects_kept}
use Rattle.go_heads.proofs.laws.objects_keep_their_numbers.Goals as goal

pub returns : goal.returns
returns c = objects_kept
