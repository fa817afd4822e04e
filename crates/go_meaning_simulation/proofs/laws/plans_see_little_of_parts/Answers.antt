use Rattle.go_meaning_simulation.proofs.Sight.{plan_sight}
use Rattle.go_meaning_simulation.proofs.laws.plans_see_little_of_parts.Goals as goal

pub returns : goal.returns
returns c = λ rights f l ps qs e. plan_sight rights ps qs e f l
