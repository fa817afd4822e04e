use Rattle.std.proofs.Common.{◌≡◌, length}
use Rattle.go_package_order.proofs.ReachedTypes.{Below}
use Rattle.go_package_order.proofs.reaches.reaches_of.Given as goal

abbrev pub invariant-loop-id : goal.invariant-loop-id
invariant-loop-id l = record { many : length l.reaches.items ≡ l.id; below : Below l.reach l.types.shapes l.reaches.items l.id }
