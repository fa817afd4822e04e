use Rattle.go_types.proofs.TypeNumbers.{number_from_identical, identical_from_number}
use Rattle.go_types.proofs.laws.equal_numbers_are_identical_types.Goals as goal

pub returns : goal.returns
returns c t i j ok a b = (identical_from_number t i j, number_from_identical t ok i j a b)
