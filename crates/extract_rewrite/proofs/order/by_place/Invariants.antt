use Rattle.std.proofs.Common.{◌≡◌}
use Rattle.std.specs.BTreeMap.{values}
use Rattle.extract_rewrite.specs.Order.{by_place, AreKeyed}
use Rattle.extract_rewrite.proofs.order.by_place.Given as goal

abbrev pub invariant-loop-edit : goal.invariant-loop-edit
invariant-loop-edit l = record {
  keyed : AreKeyed l.places.entries;
  placed : values l.places ≡ by_place l.yielded;
}
