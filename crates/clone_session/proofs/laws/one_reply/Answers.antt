use Rattle.clone_session.proofs.PackageReplies.{one}
use Rattle.clone_session.proofs.laws.one_reply.Goals as goal

pub returns : goal.returns
returns c = one (record { answer = c.packages_have_one_answer.ensures; listing = c.listings_follow_from_the_texts.ensures.one; maximal = c.reports_follow_from_the_texts.ensures.one; numbers = c.numbers_follow_from_the_texts.ensures.one; run = c.runs_follow_from_the_texts.ensures.one })
