use Rattle.go_package_order.proofs.standing.standing_in.Goals as goal

pub returns-in_ok-standing_if : goal.returns-in_ok-standing_if
returns-in_ok-standing_if c = λ n k. c.in_ok-standing_if.ensures n k.stands

pub returns-in_ok-standing_if-2 : goal.returns-in_ok-standing_if-2
returns-in_ok-standing_if-2 c = λ n k. c.in_ok-standing_if-2.ensures n k.stands
