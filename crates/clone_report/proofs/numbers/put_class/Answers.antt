use Rattle.std.proofs.Common.{get_or}
use Rattle.std.proofs.lemmas.Option.{slice_get-get_or}
use Rattle.std.specs.HashMap.{get}
use Rattle.clone_report.specs.Keys.{same_run}
use Rattle.clone_report.proofs.Steps.{tells-step}
use Rattle.clone_report.proofs.Subsumed.{nothing}
use Rattle.clone_report.proofs.numbers.put_class.Goals as goal

pub loop-member-preserved : goal.loop-member-preserved
loop-member-preserved c = λ ps h.
    let ws = c.args.members.now in
    let i = c.loop-member.member-index in
    tells-step (get same_run c.loop-member.numbers) (get same_run c.insert.new.self) ps ws i c.args.number (get_or ws i nothing) c.run_of.result
    (slice_get-get_or ws i nothing c.loop-member-test.true) c.run_of.ensures (c.loop-member.invariant ps h) (λ r. c.in_ok-insert.ensures.updates.0 r)
