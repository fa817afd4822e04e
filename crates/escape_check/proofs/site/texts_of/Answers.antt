use Rattle.std.proofs.Common.{get_or, refl}
use Rattle.std.specs.HashSet as set
use Rattle.escape_check.specs.Places.{local_text, sources_in}
use Rattle.escape_check.specs.Shown.{member_view}
use Rattle.escape_check.specs.Texts.{same_bytes}
use Rattle.escape_check.proofs.AtSites.{text_more}
use Rattle.escape_check.proofs.site.texts_of.Goals as goal

pub loop-local-preserved : goal.loop-local-preserved
loop-local-preserved c = λ w.
    let ns = c.args.locals.now in
    let i = c.loop-local.local-index in
    text_more (local_text (sources_in c.args.checked.now) (member_view c.args.member.now)) ns i (get_or ns i 0) 0 c.local_text.result.now w.now
    (set.contains same_bytes c.loop-local.texts w) (set.contains same_bytes c.insert.new.self w) c.loop-local-test.true refl c.local_text.ensures
    (c.in_ok-insert.ensures.updates.0 w) (c.loop-local.invariant w)
