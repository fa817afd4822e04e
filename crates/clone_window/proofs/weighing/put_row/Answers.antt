use Rattle.std.proofs.Common.{[]}
use Rattle.clone_window.proofs.Weights.{set-row}
use Rattle.clone_window.proofs.weighing.put_row.Goals as goal

pub returns : goal.returns
returns c = λ before after e k. set-row c.args.table.now.items c.args.number c.args.masses before after [] e k
