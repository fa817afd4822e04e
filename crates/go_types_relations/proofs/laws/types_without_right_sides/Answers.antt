use Rattle.go_types_relations.specs.Tests.{underlying_by, comparable_by}
use Rattle.go_types.specs.Trees.{declared}
use Rattle.go_types_relations.specs.Sizes.{scalars_by}
use Rattle.go_types_relations.specs.Zeros.{zero_by}
use Rattle.go_types_relations.proofs.Rounds.{open_answers}
use Rattle.go_types_relations.proofs.Assigning.{no_underlying_from, no_underlying_to}
use Rattle.go_types_relations.proofs.laws.types_without_right_sides.Goals as goal

pub returns-clause-underlying : goal.returns-clause-underlying
returns-clause-underlying c = open_answers underlying_by

pub returns-clause-comparable : goal.returns-clause-comparable
returns-clause-comparable c = open_answers comparable_by

pub returns-clause-scalars : goal.returns-clause-scalars
returns-clause-scalars c = open_answers scalars_by

pub returns-clause-zero : goal.returns-clause-zero
returns-clause-zero c = open_answers zero_by

pub returns-clause-from : goal.returns-clause-from
returns-clause-from c = λ rights n t e. no_underlying_from rights (declared n) t (open_answers underlying_by rights n e)

pub returns-clause-to : goal.returns-clause-to
returns-clause-to c = λ rights n t e. no_underlying_to rights t (declared n) (open_answers underlying_by rights n e)
