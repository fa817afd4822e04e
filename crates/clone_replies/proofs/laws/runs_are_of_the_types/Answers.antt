use Rattle.clone_replies.proofs.RunContents.{run-is}
use Rattle.clone_replies.proofs.laws.runs_are_of_the_types.Goals as goal

pub returns : goal.returns
returns c = run-is (record { underlying = c.answers_are_renamed.ensures.underlying; zero = c.answers_are_renamed.ensures.zero })
