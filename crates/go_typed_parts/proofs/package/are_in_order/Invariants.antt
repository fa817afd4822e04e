use Rattle.std.proofs.Common.{◌≡◌, drop}
use Rattle.go_typed.specs.Packages.{are_numbered}
use Rattle.go_typed_parts.proofs.package.are_in_order.Given as goal

abbrev pub invariant-loop-index : goal.invariant-loop-index
invariant-loop-index l = are_numbered 0 l.functions ≡ are_numbered l.index (drop l.index l.functions)
