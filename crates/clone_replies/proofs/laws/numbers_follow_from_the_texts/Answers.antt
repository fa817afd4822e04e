use Rattle.clone_replies.proofs.Follows.{hashes-follow, functions-follow, one-numbers}
use Rattle.clone_replies.proofs.laws.numbers_follow_from_the_texts.Goals as goal

pub returns-clause-hashes : goal.returns-clause-hashes
returns-clause-hashes c = hashes-follow (record {
  underlying = c.answers_are_renamed.ensures.underlying;
  one = c.packages_have_one_answer.ensures;
  files = record { lexing = c.one_lexing.ensures; tree = c.one_tree_of_a_file.ensures };
})

pub returns-clause-functions : goal.returns-clause-functions
returns-clause-functions c = functions-follow (record {
  underlying = c.answers_are_renamed.ensures.underlying;
  one = c.packages_have_one_answer.ensures;
  files = record { lexing = c.one_lexing.ensures; tree = c.one_tree_of_a_file.ensures };
})

pub returns-clause-one : goal.returns-clause-one
returns-clause-one c = one-numbers (record {
  underlying = c.answers_are_renamed.ensures.underlying;
  one = c.packages_have_one_answer.ensures;
  files = record { lexing = c.one_lexing.ensures; tree = c.one_tree_of_a_file.ensures };
})
