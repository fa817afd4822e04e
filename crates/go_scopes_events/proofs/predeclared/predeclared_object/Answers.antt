use Rattle.std.proofs.Common.{rules, arith}
use Rattle.std.proofs.lemmas.Grind.{common_steps}
use Rattle.go_tree.specs.Predeclared.{known_names}
use Rattle.go_scopes_events.proofs.predeclared.predeclared_object.Goals as goal

pub returns-in-None : goal.returns-in-None
unfolding known_names
returns-in-None c = first_of (search rules, grind (arith, common_steps))

pub returns-in-Some : goal.returns-in-Some
unfolding known_names
returns-in-Some c = first_of (search rules, grind (arith, common_steps))
