use Rattle.std.proofs.Common.{refl}
use Rattle.go_types_relations.specs.Tests.{underlying_by, comparable_by}
use Rattle.go_types_relations.specs.Sizes.{scalars_by}
use Rattle.go_types_relations.specs.Zeros.{zero_by}
use Rattle.go_types_relations.proofs.Underlyings.{underlying_monotone}
use Rattle.go_types_relations.proofs.Comparing.{comparable_monotone}
use Rattle.go_types_relations.proofs.Counting.{scalars_monotone}
use Rattle.go_types_relations.proofs.Zeros.{zero_monotone}
use Rattle.go_types_relations.proofs.Extending.{answer_stays, assignable_test_stays, assignable_answer_stays}
use Rattle.go_types_relations.proofs.laws.answers_stay.Goals as goal

pub returns-clause-underlying : goal.returns-clause-underlying
returns-clause-underlying c = λ old new t x ok e. answer_stays underlying_by underlying_monotone (λ known n. refl) old new ok e t x

pub returns-clause-comparable : goal.returns-clause-comparable
returns-clause-comparable c = λ old new t x ok e. answer_stays comparable_by comparable_monotone (λ known n. refl) old new ok e t x

pub returns-clause-scalars : goal.returns-clause-scalars
returns-clause-scalars c = λ old new t x ok e. answer_stays scalars_by scalars_monotone (λ known n. refl) old new ok e t x

pub returns-clause-zero : goal.returns-clause-zero
returns-clause-zero c = λ old new t x ok e. answer_stays zero_by zero_monotone (λ known n. refl) old new ok e t x

pub returns-clause-assignable : goal.returns-clause-assignable
returns-clause-assignable c = λ old new t u ok e. assignable_test_stays old new ok e t u

pub returns-clause-assignable_told : goal.returns-clause-assignable_told
returns-clause-assignable_told c = λ old new t u v w ok e. assignable_answer_stays old new ok e t u v w
