use Rattle.go_renumbering.proofs.Functions.{functions_renamed}
use Rattle.go_renumbering.proofs.laws.renumbered_functions_are_typed_the_same.Goals as goal

pub returns : goal.returns
returns c name s t number count types others x r = functions_renamed name s t count types others r number x
