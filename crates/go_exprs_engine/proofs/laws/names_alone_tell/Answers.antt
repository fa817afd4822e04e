use Rattle.go_exprs_engine.proofs.SameNames.{typed_same, faults_same}
use Rattle.go_exprs_engine.proofs.laws.names_alone_tell.Goals as goal

pub returns : goal.returns
returns c s r h t a = record { typed = typed_same r s h t a; failing = faults_same r s h t a }
