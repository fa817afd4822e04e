use Rattle.go_package.proofs.Standing.{all_derived, all_stand, all_plain}
use Rattle.go_package.proofs.laws.declarations_stand.Goals as goal

pub returns-clause-derived : goal.returns-clause-derived
returns-clause-derived c = all_derived

pub returns-clause-standing : goal.returns-clause-standing
returns-clause-standing c = all_stand

pub returns-clause-plain : goal.returns-clause-plain
returns-clause-plain c = all_plain
