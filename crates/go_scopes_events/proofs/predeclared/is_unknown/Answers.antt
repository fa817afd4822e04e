use Rattle.std.proofs.Common.{rules, arith}
use Rattle.std.proofs.lemmas.Grind.{common_steps}
use Rattle.go_tree.specs.Predeclared.{unknown_names}
use Rattle.go_scopes_events.proofs.predeclared.is_unknown.Goals as goal

pub returns : goal.returns
unfolding unknown_names
returns c = first_of (search rules, grind (arith, common_steps))
