use Rattle.go_package_steady.proofs.Begun.{bodies_ordered}
use Rattle.go_package_steady.proofs.laws.bodies_are_ordered.Goals as goal

pub returns : goal.returns
returns start a rights bs o g b signature block below rise = bodies_ordered a rights bs o g b signature block below rise
