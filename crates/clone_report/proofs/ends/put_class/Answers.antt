use Rattle.std.proofs.Common.{◌≡◌, ◌∙◌, ◌+◌, ap, get_or}
use Rattle.std.specs.Prelude.{max}
use Rattle.std.proofs.lemmas.Option.{slice_get-get_or}
use Rattle.std.specs.HashMap.{get}
use Rattle.clone_report.specs.Ends.{end_at, same_start}
use Rattle.clone_report.proofs.Steps.{reaches-step}
use Rattle.clone_report.proofs.Subsumed.{nothing}
use Rattle.clone_report.proofs.ends.put_class.Goals as goal

pub loop-member-preserved : goal.loop-member-preserved
loop-member-preserved c = λ ws h.
    let ms = c.args.members.now in
    let i = c.loop-member.member-index in
    let w = get_or ms i nothing in
    let g = get same_start c.loop-member.ends in
    let end : c.max-end.result ≡ max (end_at g c.start_of-start.result) (w.first + w.count) =
    c.max-end.ensures ∙ ap (λ a. max a c.end_of.result) c.end_at.ensures ∙ ap (max (end_at g c.start_of-start.result)) c.end_of.ensures in
    reaches-step g (get same_start c.insert.new.self) ws ms i w c.start_of-start.result c.max-end.result
    (slice_get-get_or ms i nothing c.loop-member-test.true) c.start_of-start.ensures (c.loop-member.invariant ws h) end (λ s. c.in_ok-insert.ensures.updates.0 s)
