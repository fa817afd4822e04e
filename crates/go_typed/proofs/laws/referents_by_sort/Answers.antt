use Rattle.go_typed.proofs.Referents.{functions_apart, referents_of_both}
use Rattle.go_typed.proofs.laws.referents_by_sort.Goals as goal

pub returns-clause-in_order : goal.returns-clause-in_order
returns-clause-in_order c = referents_of_both

pub returns-clause-further_function : goal.returns-clause-further_function
returns-clause-further_function c = functions_apart
