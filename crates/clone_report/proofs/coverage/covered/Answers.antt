use Rattle.std.proofs.Common.{◌∙◌, ap}
use Rattle.std.specs.HashMap.{get}
use Rattle.clone_window.specs.Bodies.{bodies_of}
use Rattle.clone_window.specs.Spans.{places_from}
use Rattle.clone_classes.specs.Listing.{members_of}
use Rattle.clone_report.specs.Ends.{same_start}
use Rattle.clone_report.proofs.Steps.{coverage-told}
use Rattle.clone_report.proofs.coverage.covered.Goals as goal

pub returns : goal.returns
returns c =
    let p = c.args.checked.now in
    coverage-told (get same_start c.in_ok-ends.ends) (members_of c.args.classes.now) p.files c.deref.result.now (bodies_of p.functions) c.args.file c.in_ok-tally.tally
    c.in_ok-ends.ensures (c.deref.ensures.value ∙ c.in_ok-places.ensures ∙ ap (places_from 0) c.files.ensures) c.in_ok-tally.ensures
