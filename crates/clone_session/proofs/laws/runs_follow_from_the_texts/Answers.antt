use Rattle.clone_session.proofs.Runs.{run-follows, one-run}
use Rattle.clone_session.proofs.laws.runs_follow_from_the_texts.Goals as goal

pub returns-clause-run : goal.returns-clause-run
returns-clause-run c = run-follows (record {
  whole = c.runs_are_of_the_content.ensures.«package»;
  files = c.runs_are_of_the_content.ensures.files;
  one = c.packages_have_one_answer.ensures;
  read = record { lexing = c.one_lexing.ensures; tree = c.one_tree_of_a_file.ensures };
})

pub returns-clause-one : goal.returns-clause-one
returns-clause-one c = one-run (record {
  whole = c.runs_are_of_the_content.ensures.«package»;
  files = c.runs_are_of_the_content.ensures.files;
  one = c.packages_have_one_answer.ensures;
  read = record { lexing = c.one_lexing.ensures; tree = c.one_tree_of_a_file.ensures };
})
