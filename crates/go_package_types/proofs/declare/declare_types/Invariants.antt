use Rattle.std.proofs.Common.{◌≡◌, ◌++◌, length, drop}
use Rattle.go_types.specs.Tables.{rights_of}
use Rattle.go_types_relations.specs.Extends.{Extends}
use Rattle.go_package_rounds.specs.World.{AreNamed}
use Rattle.go_package_types.specs.Numbers.{open_rights}
use Rattle.go_package_types.proofs.declare.declare_types.Given as goal

abbrev pub invariant-loop-object : goal.invariant-loop-object
invariant-loop-object l = record {
  extends : Extends l.fn.types l.types;
  named : AreNamed l.types l.named.items;
  count : length l.named.items ≡ length l.types.rights;
  rights : rights_of l.types ++ open_rights (drop l.object-index l.objects) ≡ open_rights l.objects;
}
