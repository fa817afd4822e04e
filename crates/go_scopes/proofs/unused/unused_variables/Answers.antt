use Rattle.std.proofs.Common.{arith, map}
use Rattle.std.proofs.lemmas.Grind.{common_steps}
use Rattle.go_scopes_lookup.specs.Views.{asked_view}
use Rattle.go_scopes.proofs.Least.{noted_place_if}
use Rattle.go_scopes.proofs.unused.unused_variables.Goals as goal

pub loop-d-preserved : goal.loop-d-preserved
loop-d-preserved c = grind (arith, common_steps, noted_place_if, c.is_unused-fails.ensures (map asked_view c.args.lookups.now) c.in_ok-spots.ensures)
