use Rattle.std.proofs.Common.{◌≡◌, drop}
use Rattle.go_package_order.specs.Reaches as specs
use Rattle.go_package_order.proofs.reaches.are_closed.Given as goal

abbrev pub invariant-loop-place : goal.invariant-loop-place
invariant-loop-place l = specs.are_closed l.reach l.reaches l.place (drop l.place l.rights) ≡ specs.are_closed l.reach l.reaches 0 l.rights
