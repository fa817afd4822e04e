use Rattle.std.proofs.Common.{refl}
use Rattle.go_types_relations.proofs.Zeros.{zero_of_right, zero_of_underlying}
use Rattle.go_types_relations.proofs.laws.zero_values.Goals as goal

pub returns-clause-booleans : goal.returns-clause-booleans
returns-clause-booleans c = λ rights. refl

pub returns-clause-texts : goal.returns-clause-texts
returns-clause-texts c = λ rights. refl

pub returns-clause-integers : goal.returns-clause-integers
returns-clause-integers c = λ rights k. refl

pub returns-clause-arrays : goal.returns-clause-arrays
returns-clause-arrays c = λ rights n t. refl

pub returns-clause-slices : goal.returns-clause-slices
returns-clause-slices c = λ rights t. refl

pub returns-clause-structures : goal.returns-clause-structures
returns-clause-structures c = λ rights names ts. refl

pub returns-clause-no_types : goal.returns-clause-no_types
returns-clause-no_types c = λ rights. refl

pub returns-clause-more_types : goal.returns-clause-more_types
returns-clause-more_types c = λ rights t ts. refl

pub returns-clause-functions : goal.returns-clause-functions
returns-clause-functions c = λ rights ps rs. refl

pub returns-clause-declared : goal.returns-clause-declared
returns-clause-declared c = zero_of_right

pub returns-clause-underlying : goal.returns-clause-underlying
returns-clause-underlying c = zero_of_underlying
