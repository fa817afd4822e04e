use Rattle.go_tree.specs.Units.{word}
use Rattle.go_scopes.proofs.HiddenNames.{knows_apart}
use Rattle.go_scopes.proofs.lists.Lists.add.Goals as goal

pub returns-in_default : goal.returns-in_default
returns-in_default c es known = knows_apart c.args.self.now (word c.args.tokens.now) es c.args.event.now c.in_default.not-Use c.in_default.not-Declaration known
