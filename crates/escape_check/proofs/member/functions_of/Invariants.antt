use Rattle.std.proofs.Common.{◌≡◌, ◌++◌, drop}
use Rattle.go_tree.specs.Uses.{functions_among}
use Rattle.escape_check.proofs.member.functions_of.Given as goal

abbrev pub invariant-loop-object : goal.invariant-loop-object
invariant-loop-object l = l.functions.items ++ functions_among (drop l.object-index l.objects) ≡ functions_among l.objects
