use Rattle.std.proofs.Common.{◌≡◌, ◌++◌, drop, map, Some}
use Rattle.go_needs.specs.Declaring.{declaring_by}
use Rattle.go_needs.proofs.declaring.declaring_of.Given as goal

abbrev pub invariant-loop-d : goal.invariant-loop-d
invariant-loop-d l = map Some l.all.items ++ map (declaring_by l.table) (drop l.d-index l.objects) ≡ map (declaring_by l.table) l.objects
