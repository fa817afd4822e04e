use Rattle.clone_session.proofs.Follows.{classes-follow, listing-follows, one-listing}
use Rattle.clone_session.proofs.laws.listings_follow_from_the_texts.Goals as goal

pub returns-clause-classes : goal.returns-clause-classes
returns-clause-classes c = classes-follow (record {
  classes = c.listings_are_of_the_types.ensures.classes;
  listing = c.listings_are_of_the_types.ensures.listing;
  one = c.packages_have_one_answer.ensures;
  files = record { lexing = c.one_lexing.ensures; tree = c.one_tree_of_a_file.ensures };
})

pub returns-clause-listing : goal.returns-clause-listing
returns-clause-listing c = listing-follows (record {
  classes = c.listings_are_of_the_types.ensures.classes;
  listing = c.listings_are_of_the_types.ensures.listing;
  one = c.packages_have_one_answer.ensures;
  files = record { lexing = c.one_lexing.ensures; tree = c.one_tree_of_a_file.ensures };
})

pub returns-clause-one : goal.returns-clause-one
returns-clause-one c = one-listing (record {
  classes = c.listings_are_of_the_types.ensures.classes;
  listing = c.listings_are_of_the_types.ensures.listing;
  one = c.packages_have_one_answer.ensures;
  files = record { lexing = c.one_lexing.ensures; tree = c.one_tree_of_a_file.ensures };
})
