use Rattle.go_function_holes_apart.proofs.laws.holes_that_stand_lie_apart.Goals as goal

pub returns : goal.returns
returns g c w f r s e k = record { stand = k; apart = g.holes_of_windows_lie_apart.ensures c w f r s.function e }
