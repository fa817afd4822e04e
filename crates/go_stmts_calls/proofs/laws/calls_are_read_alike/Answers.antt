use Rattle.go_stmts_calls.proofs.Written.{read_alike}
use Rattle.go_stmts_calls.proofs.laws.calls_are_read_alike.Goals as goal

pub returns : goal.returns
returns c t g d i ys us ns xs number gs ps rs w = read_alike t c.literals_read_back.ensures c.types_read_back.ensures g d i ys us ns xs number gs ps rs w
