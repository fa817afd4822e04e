use Rattle.std.proofs.Common.{◌≡◌, ◌++◌, drop}
use Rattle.go_needs.specs.Groups.{roots}
use Rattle.go_needs.proofs.groups.all_of.Given as goal

abbrev pub invariant-loop-group : goal.invariant-loop-group
invariant-loop-group l = l.all.items ++ roots (drop l.group-index l.groups) ≡ l.owners ++ roots l.groups
