use Rattle.go_package_added.proofs.Counted.{counted}
use Rattle.go_package_added.proofs.laws.functions_in_front_are_counted.Goals as goal

pub returns : goal.returns
returns c k ss us h keeps old new front rest were are = counted k ss us h keeps old (c.functions_are_specified_in_order.ensures ss old) (c.functions_are_specified_in_order.ensures us new) front rest were are
