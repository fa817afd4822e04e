use Rattle.std.proofs.Common.{arith, ◌≡◌, ◌∙◌}
use Rattle.edit_apply.specs.Begun.{finished_bytes}
use Rattle.edit_apply.specs.Edited.{file_of}
use Rattle.edit_apply.proofs.Writing.{finished_more, finished_all}
use Rattle.edit_apply.proofs.edits.all_finished.Goals as goal

pub loop-place-preserved : goal.loop-place-preserved
loop-place-preserved c =
    let f = c.index-files-place.result in
    let p = c.index-begun-place.result in
    let new = c.in_ok-finished_file.field-0 in
    let new-is : new ≡ file_of f.name (finished_bytes f.bytes p) = c.in_ok-finished_file.ensures in
    c.in_ok-push.ensures.items ∙ finished_more c.args.files.now c.args.begun.now c.loop-place.place f new p c.loop-place.after.items c.requires.same c.loop-place-test.true c.index-files-place.is c.index-begun-place.is new-is c.loop-place.invariant

pub returns : goal.returns
returns c = c.loop-place.invariant ∙ finished_all c.args.files.now c.args.begun.now c.loop-place.place c.requires.same (omega (arith, c.loop-place-test.false))
