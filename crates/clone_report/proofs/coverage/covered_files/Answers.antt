use Rattle.std.proofs.Common.{◌∙◌, ap}
use Rattle.std.specs.HashMap.{get}
use Rattle.clone_window.specs.Bodies.{bodies_of}
use Rattle.clone_window.specs.Spans.{places_from}
use Rattle.clone_classes.specs.Listing.{members_of}
use Rattle.clone_report.specs.Covered.{coverage}
use Rattle.clone_report.specs.Ends.{same_start}
use Rattle.clone_report.proofs.Steps.{coverage-told, numbers-next}
use Rattle.clone_report.proofs.coverage.covered_files.Goals as goal

pub loop-file-preserved : goal.loop-file-preserved
loop-file-preserved c =
    let p = c.args.checked.now in
    let cs = members_of c.args.classes.now in
    let t = c.in_ok-tally.tally in
    numbers-next (coverage cs p.files (bodies_of p.functions)) c.loop-file.file c.loop-file.out.items c.push.new.self.items (t.covered, t.statements) c.loop-file.invariant
    (coverage-told (get same_start c.in_ok-ends.ends) cs p.files c.deref.result.now (bodies_of p.functions) c.loop-file.file t
    c.in_ok-ends.ensures (c.deref.ensures.value ∙ c.in_ok-places.ensures ∙ ap (places_from 0) c.files.ensures) c.in_ok-tally.ensures)
    c.in_ok-push.ensures.items
