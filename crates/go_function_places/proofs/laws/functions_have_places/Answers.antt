use Rattle.go_function_places.proofs.Places.{have-places}
use Rattle.go_function_places.proofs.laws.functions_have_places.Goals as goal

pub returns : goal.returns
returns l p h small = have-places (λ fs a e. l.functions_are_numbered_in_order.ensures fs a e) p h small
