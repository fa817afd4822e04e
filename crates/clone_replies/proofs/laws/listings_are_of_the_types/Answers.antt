use Rattle.clone_replies.proofs.Packages.{classes-of-types, of-types}
use Rattle.clone_replies.proofs.laws.listings_are_of_the_types.Goals as goal

pub returns-clause-classes : goal.returns-clause-classes
returns-clause-classes c = classes-of-types (record { numbers = c.equal_numbers_are_identical_types.ensures; test = c.functions_are_the_relations.ensures.identical; renamings = c.answers_are_renamed.ensures.identical; underlying = c.answers_are_renamed.ensures.underlying })

pub returns-clause-listing : goal.returns-clause-listing
returns-clause-listing c = of-types (record { numbers = c.equal_numbers_are_identical_types.ensures; test = c.functions_are_the_relations.ensures.identical; renamings = c.answers_are_renamed.ensures.identical; underlying = c.answers_are_renamed.ensures.underlying })
