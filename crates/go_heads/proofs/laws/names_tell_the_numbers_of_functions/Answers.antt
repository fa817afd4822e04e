use Rattle.go_heads.proofs.FunctionNumbers.{one_number}
use Rattle.go_heads.proofs.laws.names_tell_the_numbers_of_functions.Goals as goal

pub returns : goal.returns
returns c old new h i e none =
    one_number old new h (c.functions_keep_their_numbers.ensures old new h i e) (c.functions_have_their_own_names.ensures old h none)
