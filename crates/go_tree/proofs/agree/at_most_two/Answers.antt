use Rattle.std.proofs.Common.{sym, ap}
use Rattle.std.specs.Prelude.{nat_le}
use Rattle.go_tree.proofs.Rows.{count-views}
use Rattle.go_tree.proofs.agree.at_most_two.Goals as goal

pub returns : goal.returns
returns c = ap (λ n. nat_le n 2) (sym (count-views c.args.parts.now))
