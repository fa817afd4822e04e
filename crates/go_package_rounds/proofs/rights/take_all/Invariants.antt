use Rattle.std.proofs.Common.{◌≡◌, ◌++◌, length, drop}
use Rattle.go_types.specs.Relations.{Rights}
use Rattle.go_types.specs.Tables.{rights_of}
use Rattle.go_types_relations.specs.Extends.{Extends}
use Rattle.go_package_rounds.specs.Rights.{rights_held}
use Rattle.go_package_rounds.proofs.rights.take_all.Given as goal

abbrev pub invariant-loop-number : goal.invariant-loop-number
invariant-loop-number l =
    let t = l.fn.types in
    Extends t l.types
    × (l.types.shapes ≡ t.shapes)
    × (rights_of t ≡ rights_held t l.objects l.old → (done : Rights) × (length done ≡ l.place) × (rights_of l.types ≡ done ++ rights_held t (drop l.number l.objects) (drop l.number l.old)) × (done ++ rights_held t (drop l.number l.objects) (drop l.number l.new) ≡ rights_held t l.objects l.new))
