use Rattle.std.specs.Prelude.{codes}
use Rattle.go_scopes_changes.proofs.Missing.{bodies_stay}
use Rattle.go_scopes_changes.proofs.laws.bodies_stay_there.Goals as goal

pub returns : goal.returns
returns c = λ old new h k e bodied f. bodies_stay c.heads_tell_names.ensures (codes "int") old new h k e (c.functions_keep_their_numbers.ensures old new h k e) bodied f
