use Rattle.std.proofs.Common.{◌≡◌, ◌++◌, length, map}
use Rattle.go_tree.specs.Declarations.{new_among}
use Rattle.go_scopes_lookup.specs.Views.{found_view}
use Rattle.go_scopes_lookup.proofs.found.new_among.Given as goal

abbrev pub invariant-loop-left : goal.invariant-loop-left
invariant-loop-left l = map found_view l.out.items ++ new_among (map found_view l.all) (map found_view l.left) ≡ new_among (map found_view l.all) (map found_view l.all)

abbrev pub decreases-loop-left : goal.decreases-loop-left
decreases-loop-left l = length l.left
