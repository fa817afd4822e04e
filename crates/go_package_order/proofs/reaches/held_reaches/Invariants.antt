use Rattle.std.proofs.Common.{◌≡◌, map, ◌++◌, drop}
use Rattle.go_package_order.specs.Reaches as specs
use Rattle.go_package_order.proofs.reaches.held_reaches.Given as goal

abbrev pub invariant-loop-known : goal.invariant-loop-known
invariant-loop-known l = l.found.items ++ map (λ h. specs.sort_reach l.reaches h.stands) (drop l.known-index l.all) ≡ map (λ h. specs.sort_reach l.reaches h.stands) l.all
