use Rattle.std.proofs.Common.{map}
use Rattle.go_tree.specs.Uses.{uses}
use Rattle.go_package_defs.specs.Sources.{unit_of}
use Rattle.go_package_checked.proofs.Around.{around_known}
use Rattle.go_package_checked.proofs.Stages.{stages}
use Rattle.go_package_checked.proofs.Held.{objects_known}
use Rattle.go_package_checked.proofs.laws.objects_of_checked_packages_are_known.Goals as goal

pub returns : goal.returns
returns c = record {
  objects = λ ss t f h n. objects_known c.derivations_are_shaped.ensures.here ss t.environment (c.checked_packages_settle.ensures.sources ss t f h).settled (stages ss t h).answer f n;
  around = λ ss t f h n rights o kept.
      around_known ss (uses (map unit_of ss)) t.environment (objects_known c.derivations_are_shaped.ensures.here ss t.environment (c.checked_packages_settle.ensures.sources ss t f h).settled (stages ss t h).answer f n) rights o kept;
}
