use Rattle.go_package.proofs.Files.{are_reported}
use Rattle.go_package.proofs.laws.file_faults_are_reported.Goals as goal

pub returns : goal.returns
returns c = are_reported
