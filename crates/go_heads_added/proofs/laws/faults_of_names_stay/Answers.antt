use Rattle.go_heads_added.proofs.Reported.{same_reported}
use Rattle.go_heads_added.proofs.laws.faults_of_names_stay.Goals as goal

pub returns : goal.returns
returns c k n name old new h i q w fine s = same_reported k n name old new h i q w fine s
