use Rattle.clone_session.proofs.Reports.{covered-follows, one-report, report-follows}
use Rattle.clone_session.proofs.laws.reports_follow_from_the_texts.Goals as goal

pub returns-clause-covered : goal.returns-clause-covered
returns-clause-covered c = covered-follows (record {
  covered = c.reports_are_of_the_types.ensures.covered;
  reply = c.reports_are_of_the_types.ensures.reply;
  one = c.packages_have_one_answer.ensures;
  files = record { lexing = c.one_lexing.ensures; tree = c.one_tree_of_a_file.ensures };
})

pub returns-clause-reply : goal.returns-clause-reply
returns-clause-reply c = report-follows (record {
  covered = c.reports_are_of_the_types.ensures.covered;
  reply = c.reports_are_of_the_types.ensures.reply;
  one = c.packages_have_one_answer.ensures;
  files = record { lexing = c.one_lexing.ensures; tree = c.one_tree_of_a_file.ensures };
})

pub returns-clause-one : goal.returns-clause-one
returns-clause-one c = one-report (record {
  covered = c.reports_are_of_the_types.ensures.covered;
  reply = c.reports_are_of_the_types.ensures.reply;
  one = c.packages_have_one_answer.ensures;
  files = record { lexing = c.one_lexing.ensures; tree = c.one_tree_of_a_file.ensures };
})
