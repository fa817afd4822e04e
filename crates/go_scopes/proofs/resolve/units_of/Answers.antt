use Rattle.std.proofs.Common.{arith}
use Rattle.std.proofs.lemmas.Grind.{common_steps}
use Rattle.go_scopes.proofs.Orderly.{orderly_more, counted_more, inside_more}
use Rattle.go_scopes.proofs.resolve.units_of.Goals as goal

pub loop-file-preserved : goal.loop-file-preserved
loop-file-preserved c = record {
  units = grind (arith, common_steps);
  orderly = orderly_more c.loop-file.units.items c.push.new.self.items c.in_ok-unit_of.field-0 c.in_ok-push.ensures.items c.loop-file.invariant.orderly c.in_ok-unit_of.ensures.orderly;
  counted = counted_more c.loop-file.units.items c.push.new.self.items c.in_ok-unit_of.field-0 c.in_ok-push.ensures.items c.loop-file.invariant.counted c.in_ok-unit_of.ensures.counted;
  inside = inside_more c.loop-file.units.items c.push.new.self.items c.in_ok-unit_of.field-0 c.in_ok-push.ensures.items c.loop-file.invariant.inside c.in_ok-unit_of.ensures.inside;
}
