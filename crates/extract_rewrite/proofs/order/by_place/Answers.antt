use Rattle.extract_rewrite.proofs.Placing.{still_keyed, one_more}
use Rattle.extract_rewrite.proofs.order.by_place.Goals as goal

pub loop-edit-preserved-in_ok-insert : goal.loop-edit-preserved-in_ok-insert
loop-edit-preserved-in_ok-insert c = record {
  keyed = still_keyed c.loop-edit.places.entries c.insert.new.self.entries c.in-Some.edit c.in_ok-insert.ensures.entries c.loop-edit.invariant.keyed;
  placed = one_more c.loop-edit.places.entries c.insert.new.self.entries c.in-Some.edit c.loop-edit.yielded c.in_ok-insert.ensures.entries c.loop-edit.invariant.keyed c.loop-edit.invariant.placed;
}

pub loop-edit-preserved : goal.loop-edit-preserved
loop-edit-preserved c = record {
  keyed = still_keyed c.loop-edit.places.entries c.insert.new.self.entries c.in-Some.edit c.in_ok-insert.ensures.entries c.loop-edit.invariant.keyed;
  placed = one_more c.loop-edit.places.entries c.insert.new.self.entries c.in-Some.edit c.loop-edit.yielded c.in_ok-insert.ensures.entries c.loop-edit.invariant.keyed c.loop-edit.invariant.placed;
}
