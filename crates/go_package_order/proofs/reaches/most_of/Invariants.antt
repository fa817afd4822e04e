use Rattle.std.proofs.Common.{◌≡◌, drop}
use Rattle.std.specs.Prelude.{max}
use Rattle.go_package_order.specs.Reaches as specs
use Rattle.go_package_order.proofs.reaches.most_of.Given as goal

abbrev pub invariant-loop-id : goal.invariant-loop-id
invariant-loop-id l = max l.most (specs.most_of l.reaches (drop l.id-index l.of)) ≡ specs.most_of l.reaches l.of
