use Rattle.go_renumbering.proofs.Reached.{reached_renamed}
use Rattle.go_renumbering.proofs.laws.reached_types_are_renumbered.Goals as goal

pub returns : goal.returns
returns c = reached_renamed
