use Rattle.go_heads_added.proofs.Longer.{file_earlier}
use Rattle.go_heads_added.proofs.laws.names_stand_in_files.Goals as goal

pub returns : goal.returns
returns c ts t n f e = file_earlier ts t n f e
