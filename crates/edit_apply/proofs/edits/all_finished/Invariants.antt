use Rattle.std.proofs.Common.{◌≡◌, take}
use Rattle.edit_apply.specs.Begun.{finished}
use Rattle.edit_apply.proofs.edits.all_finished.Given as goal

abbrev pub invariant-loop-place : goal.invariant-loop-place
invariant-loop-place l = l.after.items ≡ take l.place (finished l.files l.begun)
