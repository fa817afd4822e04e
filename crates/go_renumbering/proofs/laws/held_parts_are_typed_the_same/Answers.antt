use Rattle.go_renumbering.proofs.Holding.{holding_kept, held_faults_kept}
use Rattle.go_renumbering.proofs.laws.held_parts_are_typed_the_same.Goals as goal

pub returns : goal.returns
returns c = record { typed = holding_kept; failing = held_faults_kept }
