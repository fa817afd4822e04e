use Rattle.go_package_steady.proofs.Declared.{locals_rise_there}
use Rattle.go_package_steady.proofs.laws.declared_locals_rise.Goals as goal

pub returns : goal.returns
returns start u n f is ok ascend declares = locals_rise_there u n f is ok ascend declares
