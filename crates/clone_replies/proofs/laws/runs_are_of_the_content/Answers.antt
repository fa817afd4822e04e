use Rattle.clone_replies.proofs.ReplyContents.{runs-alike, same-files}
use Rattle.clone_replies.proofs.laws.runs_are_of_the_content.Goals as goal

pub returns-clause-package : goal.returns-clause-package
returns-clause-package c = runs-alike (record { run = c.runs_are_of_the_types.ensures })

pub returns-clause-files : goal.returns-clause-files
returns-clause-files c = same-files
