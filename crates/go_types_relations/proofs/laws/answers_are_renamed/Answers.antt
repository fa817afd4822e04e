use Rattle.go_types_relations.proofs.Renaming.{identical_renamed, underlying_renamed, comparability_renamed, assignable_renamed, scalars_renamed, zero_renamed}
use Rattle.go_types_relations.proofs.laws.answers_are_renamed.Goals as goal

pub returns-clause-identical : goal.returns-clause-identical
returns-clause-identical c = λ name t u one. identical_renamed name one t u

pub returns-clause-underlying : goal.returns-clause-underlying
returns-clause-underlying c = λ name old new t same. underlying_renamed name old new same t

pub returns-clause-comparable : goal.returns-clause-comparable
returns-clause-comparable c = λ name old new t same. comparability_renamed name old new same t

pub returns-clause-assignable : goal.returns-clause-assignable
returns-clause-assignable c = λ name old new t u one same. assignable_renamed name one old new same t u

pub returns-clause-scalars : goal.returns-clause-scalars
returns-clause-scalars c = λ name old new t same. scalars_renamed name old new same t

pub returns-clause-zero : goal.returns-clause-zero
returns-clause-zero c = λ name old new t same. zero_renamed name old new same t
