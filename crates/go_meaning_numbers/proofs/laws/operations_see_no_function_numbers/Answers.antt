use Rattle.go_meaning_numbers.proofs.Moving.{perform_moved}
use Rattle.go_meaning_numbers.proofs.laws.operations_see_no_function_numbers.Goals as goal

pub returns : goal.returns
returns c = perform_moved
