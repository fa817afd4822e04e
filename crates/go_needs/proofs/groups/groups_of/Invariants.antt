use Rattle.std.proofs.Common.{◌≡◌, ◌++◌, drop, map}
use Rattle.go_declarations.specs.Views.{seen_all}
use Rattle.go_needs.specs.Groups.{group_view, group_by}
use Rattle.go_needs.proofs.groups.groups_of.Given as goal

abbrev pub invariant-loop-s : goal.invariant-loop-s
invariant-loop-s l = map group_view l.groups.items ++ map (group_by l.uses l.owned) (seen_all (drop l.s-index l.specifications)) ≡ map (group_by l.uses l.owned) (seen_all l.specifications)
