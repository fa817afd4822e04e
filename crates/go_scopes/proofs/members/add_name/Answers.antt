use Rattle.std.proofs.Common.{arith}
use Rattle.go_scopes.proofs.Gathering.{same_text-pointwise}
use Rattle.go_scopes.proofs.members.add_name.Goals as goal

pub returns : goal.returns
returns c h v = grind (arith, c.in_ok-insert.ensures.updates.0 (h, v), same_text-pointwise c.args.name.now v.now)
