use Rattle.std.proofs.Common.{◌≡◌, ◌++◌, drop}
use Rattle.go_typed.specs.Packages.{referents, referents_from}
use Rattle.go_package_types.specs.Numbers.{counts_view}
use Rattle.go_package_types.proofs.declare.referents.Given as goal

abbrev pub invariant-loop-object : goal.invariant-loop-object
invariant-loop-object l = l.numbers.items ++ referents_from (counts_view l.counts) (drop l.object-index l.objects) ≡ referents l.objects
