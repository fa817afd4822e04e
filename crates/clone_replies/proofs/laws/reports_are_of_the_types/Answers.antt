use Rattle.clone_replies.proofs.MaximalClasses.{covered-of-types, reports-of-types}
use Rattle.clone_replies.proofs.laws.reports_are_of_the_types.Goals as goal

pub returns-clause-covered : goal.returns-clause-covered
returns-clause-covered c = covered-of-types

pub returns-clause-reply : goal.returns-clause-reply
returns-clause-reply c = reports-of-types (record { numbers = c.equal_numbers_are_identical_types.ensures; test = c.functions_are_the_relations.ensures.identical; renamings = c.answers_are_renamed.ensures.identical; underlying = c.answers_are_renamed.ensures.underlying })
