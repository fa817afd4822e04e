use Rattle.std.proofs.Common.{arith}
use Rattle.go_values.proofs.Rows.{window_part, window_rest, rest_length}
use Rattle.go_values.proofs.lists.window.Goals as goal

pub returns-then-length-rest : goal.returns-then-length-rest
returns-then-length-rest c = window_part c.args.values.now c.args.start c.args.length

pub returns-else-length-rest : goal.returns-else-length-rest
returns-else-length-rest c =
    window_rest c.args.values.now c.args.start c.args.length (omega (arith, c.if-length-rest.false, rest_length c.args.values.now c.args.start))
