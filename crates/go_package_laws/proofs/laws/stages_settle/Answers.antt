use Rattle.go_package_laws.proofs.Stages.{staged}
use Rattle.go_package_laws.proofs.laws.stages_settle.Goals as goal

pub returns : goal.returns
returns c p os found s k a m = staged p os found s a k m
