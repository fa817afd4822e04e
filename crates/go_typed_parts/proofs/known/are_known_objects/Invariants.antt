use Rattle.std.proofs.Common.{◌≡◌, drop}
use Rattle.std.specs.List.{list_all}
use Rattle.go_typed.specs.Packages.{is_below}
use Rattle.go_typed.specs.Trees.{sort_has}
use Rattle.go_typed_parts.proofs.known.are_known_objects.Given as goal

abbrev pub invariant-loop-number : goal.invariant-loop-number
invariant-loop-number l = list_all (sort_has (is_below l.count)) l.env.objects ≡ list_all (sort_has (is_below l.count)) (drop l.number l.env.objects)
