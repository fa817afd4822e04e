-- Two arguments of `min` or `max` are of one type where the operands of a binary operator are, and of the same one.
use Rattle.std.specs.Prelude.{◌≡◌, [], ◌∷◌}
use Rattle.go_types.specs.Relations.{Rights}
use Rattle.go_typed.specs.Trees.{sort_of}
use Rattle.go_exprs_rules.specs.Settling.{Part}
use Rattle.go_exprs_rules.specs.Operators.{common}
use Rattle.go_exprs_rules.specs.Calls.{meeting}

abbrev pub MeetAsOperands : Type 0
MeetAsOperands = (rights : Rights) (x y : Part) → meeting rights (x ∷ y ∷ []) ≡ common rights (sort_of x) (sort_of y)
