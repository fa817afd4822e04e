use Rattle.go_types_relations.proofs.Identity.{identical_test, test_identical}
use Rattle.go_types_relations.proofs.Underlyings.{underlying_told, told_underlying}
use Rattle.go_types_relations.proofs.Comparing.{comparable_test, test_comparable}
use Rattle.go_types_relations.proofs.Assigning.{assignable_test, test_assignable}
use Rattle.go_types_relations.proofs.Counting.{scalars_told, told_scalars}
use Rattle.go_types_relations.proofs.laws.functions_are_the_relations.Goals as goal

pub returns-clause-identical : goal.returns-clause-identical
returns-clause-identical c = λ t u. (test_identical t u, identical_test t u)

pub returns-clause-underlying : goal.returns-clause-underlying
returns-clause-underlying c = λ rights t u. (told_underlying rights t u, underlying_told rights t u)

pub returns-clause-comparable : goal.returns-clause-comparable
returns-clause-comparable c = λ rights t. (test_comparable rights t, comparable_test rights t)

pub returns-clause-assignable : goal.returns-clause-assignable
returns-clause-assignable c = λ rights t u. (test_assignable rights t u, assignable_test rights t u)

pub returns-clause-scalars : goal.returns-clause-scalars
returns-clause-scalars c = λ rights t n. (told_scalars rights t n, scalars_told rights t n)
