use Rattle.std.proofs.Common.{◌≡◌, ◌++◌, drop, map, Some}
use Rattle.go_needs.specs.Objects.{owner_by}
use Rattle.go_needs.proofs.objects.owners_of.Given as goal

abbrev pub invariant-loop-d : goal.invariant-loop-d
invariant-loop-d l = map Some l.all.items ++ map (owner_by l.owned l.table) (drop l.d-index l.objects) ≡ map (owner_by l.owned l.table) l.objects
