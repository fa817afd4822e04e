use Rattle.go_typed.proofs.Uses.{uses_name, uses_list, uses_rise}
use Rattle.go_typed.proofs.laws.uses_of_a_range.Goals as goal

pub returns-clause-from : goal.returns-clause-from
returns-clause-from c = λ tokens i n k u e. (uses_name tokens i n k u e).from

pub returns-clause-to : goal.returns-clause-to
returns-clause-to c = λ tokens i n k u e. (uses_name tokens i n k u e).to

pub returns-clause-named : goal.returns-clause-named
returns-clause-named c = λ tokens i n k u e. (uses_name tokens i n k u e).names

pub returns-clause-all : goal.returns-clause-all
returns-clause-all c = λ tokens i n t m low high e. let r = uses_list tokens i n t m low high e in (r.place, r.there)

pub returns-clause-order : goal.returns-clause-order
returns-clause-order c = uses_rise
